use Rattle.cg_amazons.proofs.ReadLemmas.{board_read, board_refused}
use Rattle.cg_amazons.proofs.reading.read.Goals as goal

pub returns-clause-read : goal.returns-clause-read
returns-clause-read c = board_read c.args.text.now c.read_grid.result c.read_grid.ensures.read c.read_grid.ensures.symbols

pub returns-clause-refused : goal.returns-clause-refused
returns-clause-refused c = board_refused c.args.text.now c.read_grid.result c.read_grid.ensures.refused

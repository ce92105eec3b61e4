use Rattle.cg_strip.proofs.BoardLemmas.{toads_read, toads_refused}
use Rattle.cg_strip.proofs.toads.read_toads.Goals as goal

pub returns-clause-read : goal.returns-clause-read
returns-clause-read c = toads_read c.args.text.now c.read_grid.result c.read_grid.ensures.read c.read_grid.ensures.symbols

pub returns-clause-refused : goal.returns-clause-refused
returns-clause-refused c = toads_refused c.args.text.now c.read_grid.result c.read_grid.ensures.refused

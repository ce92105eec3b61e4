use Rattle.std.proofs.Common.{ap}
use Rattle.cg_amazons.specs.Amazons.{amazons}
use Rattle.cg_eval.specs.Boards.{position_by}
use Rattle.cg_eval.proofs.BoardReads.{amazons-faulty}
use Rattle.cg_eval.proofs.boards.amazons_board.Goals as goal

pub returns-in-Ok-clause-read : goal.returns-in-Ok-clause-read
returns-in-Ok-clause-read c = ap (position_by amazons) c.in-Ok.ensures.read.read

pub returns-in-Err-clause-refused : goal.returns-in-Err-clause-refused
returns-in-Err-clause-refused c = amazons-faulty c.args.text.now c.in-Err.fault c.in-Err.ensures.refused

use Rattle.std.proofs.Common.{ap}
use Rattle.cg_strip.specs.Toads.{toads_game}
use Rattle.cg_eval.specs.Boards.{position_by}
use Rattle.cg_eval.proofs.BoardReads.{toads-faulty}
use Rattle.cg_eval.proofs.boards.toads_board.Goals as goal

pub returns-in-Ok-clause-read : goal.returns-in-Ok-clause-read
returns-in-Ok-clause-read c = ap (position_by toads_game) c.in-Ok.ensures.read.read

pub returns-in-Err-clause-refused : goal.returns-in-Err-clause-refused
returns-in-Err-clause-refused c = toads-faulty c.args.text.now c.in-Err.fault c.in-Err.ensures.refused

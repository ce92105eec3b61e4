use Rattle.std.proofs.Common.{ap, false}
use Rattle.std.specs.Prelude.{codes}
use Rattle.cg_moves.specs.Texts.{read_of}
use Rattle.cg_domineering.specs.Moves.{domineering}
use Rattle.cg_eval.specs.Boards.{position_by}
use Rattle.cg_eval.proofs.BoardReads.{read-faulty}
use Rattle.cg_eval.proofs.boards.domineering_board.Goals as goal

pub returns-in-Ok-clause-read : goal.returns-in-Ok-clause-read
returns-in-Ok-clause-read c = ap (position_by domineering) c.in-Ok.ensures.read

pub returns-in-Err-clause-refused : goal.returns-in-Err-clause-refused
returns-in-Err-clause-refused c =
    read-faulty domineering (read_of (codes ".#") false c.args.text.now) c.in-Err.fault c.in-Err.ensures.refused

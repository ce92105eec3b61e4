use Rattle.cg_graph.specs.Drawings.{drawing_read}
use Rattle.cg_eval.specs.Boards.{position_drawn}
use Rattle.cg_eval.proofs.BoardReads.{drawn-faulty, drawn-set_up, no-memory}
use Rattle.cg_eval.proofs.boards.hackenbush_board.Goals as goal

pub returns-in-Err-clause-refused : goal.returns-in-Err-clause-refused
returns-in-Err-clause-refused c = drawn-faulty c.args.edges.now c.in-Err.fault c.in-Err.ensures.cause

pub returns-in-Ok-board-clause-read : goal.returns-in-Ok-board-clause-read
returns-in-Ok-board-clause-read c =
    drawn-set_up c.args.edges.now c.in-Ok.drawing c.in-Ok-board.board c.in-Ok.ensures.same c.in-Ok-board.ensures.value

pub returns-in-Err-board-clause-refused : goal.returns-in-Err-board-clause-refused
returns-in-Err-board-clause-refused c = no-memory (position_drawn (drawing_read c.args.edges.now))

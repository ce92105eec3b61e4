use Rattle.cg_graph.specs.ColouredGraphs.{coloured_graph_read}
use Rattle.cg_eval.specs.Boards.{position_coloured}
use Rattle.cg_eval.proofs.BoardReads.{coloured-faulty, coloured-set_up, no-memory}
use Rattle.cg_eval.proofs.boards.colouring_board.Goals as goal

pub returns-in-Err-clause-refused : goal.returns-in-Err-clause-refused
returns-in-Err-clause-refused c =
    coloured-faulty c.args.snort c.args.vertices.now c.args.edges.now c.in-Err.fault c.in-Err.ensures.cause

pub returns-in-Ok-board-clause-read : goal.returns-in-Ok-board-clause-read
returns-in-Ok-board-clause-read c =
    coloured-set_up c.args.snort c.args.vertices.now c.args.edges.now c.in-Ok.coloured_graph c.in-Ok-board.board
    c.in-Ok.ensures.same c.in-Ok-board.ensures.value

pub returns-in-Err-board-clause-refused : goal.returns-in-Err-board-clause-refused
returns-in-Err-board-clause-refused c =
    no-memory (position_coloured (coloured_graph_read c.args.snort c.args.vertices.now c.args.edges.now))

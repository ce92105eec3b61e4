use Rattle.std.proofs.Common.{◌≡◌, map}
use Rattle.std.specs.List.{flat_map}
use Rattle.cg_moves.specs.Grid.{with_cells}
use Rattle.cg_moves.specs.Rising.{counted}
use Rattle.cg_graph.specs.Drawings.{graph_of}
use Rattle.cg_graph.specs.Hackenbush.{cuts_at}
use Rattle.cg_graph.proofs.drawing_moves.boards_of.Given as goal

abbrev pub invariant-loop-index : goal.invariant-loop-index
invariant-loop-index l =
    l.boards.items ≡ map (with_cells l.board) (flat_map (cuts_at (graph_of l.edges) l.player l.board.cells) (counted 0 l.index))

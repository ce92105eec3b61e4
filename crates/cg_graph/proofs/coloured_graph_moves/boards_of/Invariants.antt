use Rattle.std.proofs.Common.{◌≡◌, map}
use Rattle.std.specs.List.{flat_map}
use Rattle.cg_moves.specs.Grid.{with_cells}
use Rattle.cg_moves.specs.Rising.{counted}
use Rattle.cg_graph.specs.ColouredGraphs.{edges_of}
use Rattle.cg_graph.specs.Colouring.{colourings_at}
use Rattle.cg_graph.proofs.coloured_graph_moves.boards_of.Given as goal

abbrev pub invariant-loop-vertex : goal.invariant-loop-vertex
invariant-loop-vertex l =
    l.boards.items ≡ map (with_cells l.board)
    (flat_map (colourings_at l.coloured_graph.snort (edges_of l.coloured_graph.edges) l.player l.board.cells) (counted 0 l.vertex))

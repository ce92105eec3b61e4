use Rattle.std.proofs.Common.{◌≡◌}
use Rattle.cg_moves.specs.Grid.{with_cells}
use Rattle.cg_graph.specs.Drawings.{graph_of}
use Rattle.cg_graph.specs.Paths.{is_joined}
use Rattle.cg_graph.proofs.LabelSteps.{IsKeptBelow}
use Rattle.cg_graph.proofs.labels.settled.Given as goal

abbrev pub invariant-loop-i : goal.invariant-loop-i
invariant-loop-i l = record {
  like : l.kept ≡ with_cells l.fn.board l.kept.cells;
  kept : IsKeptBelow (is_joined (graph_of l.edges) l.fn.board.cells) l.fn.board.cells l.kept.cells l.i;
}

use Rattle.std.proofs.Common.{◌≤◌, length}
use Rattle.cg_graph.proofs.LabelSteps.{AreLabelsFrom}
use Rattle.cg_graph.proofs.labels.labels.Given as goal

abbrev pub invariant-loop-left : goal.invariant-loop-left
invariant-loop-left l = record {
  within : l.left ≤ length l.edges;
  are : AreLabelsFrom l.labels l.edges l.board.cells l.left;
}

abbrev pub decreases-loop-left : goal.decreases-loop-left
decreases-loop-left l = l.left

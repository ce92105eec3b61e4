use Rattle.std.proofs.Common.{◌≡◌, ◌+◌, ◌*◌, ◌^◌, ◌≤◌, drop}
use Rattle.cg_strip.specs.Weighing.{cells_weight}
use Rattle.cg_strip.proofs.weighing.cells_weight.Given as goal

abbrev pub invariant-loop-i : goal.invariant-loop-i
invariant-loop-i l = record {
  same : l.sum + cells_weight l.weights (l.left + l.i) (drop l.i l.cells) l.right ≡ cells_weight l.weights l.left l.cells l.right;
  bound : l.sum ≤ l.i * 2 ^ 24;
}

use Rattle.std.proofs.Common.{◌≡◌, drop}
use Rattle.cg_strip.specs.Weighing.{symbol_weight}
use Rattle.cg_strip.proofs.weighing.symbol_weight.Given as goal

abbrev pub invariant-loop-weight : goal.invariant-loop-weight
invariant-loop-weight l = symbol_weight (drop l.weight-index l.weights) l.symbol l.left l.right ≡ symbol_weight l.weights l.symbol l.left l.right

use Rattle.std.proofs.Common.{◌≡◌, ◌-◌}
use Rattle.cg_strip.specs.Weighing.{lowers_from}
use Rattle.cg_strip.proofs.weighing.does_lower.Given as goal

abbrev pub invariant-loop-left : goal.invariant-loop-left
invariant-loop-left l = lowers_from l.weights l.rule l.left (l.room - l.left) ≡ lowers_from l.weights l.rule 0 l.room

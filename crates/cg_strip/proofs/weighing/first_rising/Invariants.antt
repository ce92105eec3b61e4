use Rattle.std.proofs.Common.{◌≡◌, drop}
use Rattle.cg_strip.specs.Weighing.{first_rising}
use Rattle.cg_strip.proofs.weighing.first_rising.Given as goal

abbrev pub invariant-loop-i : goal.invariant-loop-i
invariant-loop-i l = first_rising l.weights l.size l.i (drop l.i l.rules) ≡ first_rising l.weights l.size 0 l.rules

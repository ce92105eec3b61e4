use Rattle.std.proofs.Common.{◌≡◌, [], take, drop}
use Rattle.cg_strip.specs.RuleFaults.{weights_in}
use Rattle.cg_strip.specs.Faults.{weights_fault}
use Rattle.cg_strip.proofs.faults.first_bad_weight.Given as goal

abbrev pub invariant-loop-i : goal.invariant-loop-i
invariant-loop-i l = weights_fault (weights_in (take l.i l.items)) (drop l.i l.items) ≡ weights_fault [] l.items

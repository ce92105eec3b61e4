use Rattle.std.proofs.Common.{◌≡◌, drop}
use Rattle.cg_strip.specs.RuleFaults.{weights_in}
use Rattle.cg_strip.specs.Faults.{rules_fault}
use Rattle.cg_strip.proofs.faults.first_bad_rule.Given as goal

abbrev pub invariant-loop-i : goal.invariant-loop-i
invariant-loop-i l = rules_fault (weights_in l.weights) l.i (drop l.i l.items) ≡ rules_fault (weights_in l.weights) 0 l.items

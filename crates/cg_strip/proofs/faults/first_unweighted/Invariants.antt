use Rattle.std.proofs.Common.{◌≡◌, ◌+◌, drop}
use Rattle.cg_strip.specs.RuleFaults.{weights_in}
use Rattle.cg_strip.specs.Faults.{unweighted_fault}
use Rattle.cg_strip.proofs.faults.first_unweighted.Given as goal

abbrev pub invariant-loop-i : goal.invariant-loop-i
invariant-loop-i l = unweighted_fault (weights_in l.weights) (l.place + l.i) (drop l.i l.symbols) ≡ unweighted_fault (weights_in l.weights) l.place l.symbols

use Rattle.std.proofs.Common.{◌-◌}
use Rattle.cg_dyadic.proofs.Coarser.{CoarserCrossed}
use Rattle.cg_dyadic.proofs.search.coarsest.Given as goal

abbrev pub invariant-loop-low : goal.invariant-loop-low
invariant-loop-low l = CoarserCrossed l.low l.high l.scale

abbrev pub decreases-loop-low : goal.decreases-loop-low
decreases-loop-low l = 41 - l.scale

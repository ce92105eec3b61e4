use Rattle.std.proofs.Common.{◌-◌, ◌<◌}
use Rattle.cg_hash_index.proofs.hash_index.size_for.Given as goal

abbrev pub invariant-loop-size : goal.invariant-loop-size
invariant-loop-size l = 0 < l.size

abbrev pub decreases-loop-size : goal.decreases-loop-size
decreases-loop-size l = l.least - l.size

use Rattle.std.proofs.Common.{◌≡◌, ◌*◌, ◌^◌, ◌≤◌}
use Rattle.cg_dyadic.proofs.arithmetic.lowest.Given as goal

abbrev pub invariant-loop-exp : goal.invariant-loop-exp
invariant-loop-exp l = record { same : l.size * 2 ^ l.fn.exp ≡ l.fn.size * 2 ^ l.exp; smaller : l.size ≤ l.fn.size }

abbrev pub decreases-loop-exp : goal.decreases-loop-exp
decreases-loop-exp l = l.exp

use Rattle.std.proofs.Common.{◌≡◌, length}
use Rattle.cg_session.proofs.weighing.weights_of.Given as goal

abbrev pub invariant-loop-line : goal.invariant-loop-line
invariant-loop-line l = length l.weights.items ≡ l.line-index

use Rattle.std.proofs.Common.{◌≡◌, map}
use Rattle.cg_pool.proofs.order.drop_numbers.Given as goal

abbrev pub invariant-loop-answer : goal.invariant-loop-answer
invariant-loop-answer g l = l.plain.items ≡ map (λ a. a.1) l.yielded

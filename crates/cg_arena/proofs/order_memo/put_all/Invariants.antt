use Rattle.std.specs.Prelude.{◌⊎◌}
use Rattle.cg_arena.specs.declared.order_memo.Answer.{Answer}
use Rattle.cg_arena.specs.OrderMemos.{IsPlaced}
use Rattle.cg_arena.proofs.order_memo.put_all.Given as goal

abbrev pub invariant-loop-place : goal.invariant-loop-place
invariant-loop-place l = (x : Answer) → IsPlaced l.places x → IsPlaced l.old x ⊎ IsPlaced l.initial.places x

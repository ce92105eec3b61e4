use Rattle.std.proofs.Common.{◌-◌, length, not}
use Rattle.cg_form.specs.Side.{at_most}
use Rattle.cg_arena.specs.Arena.{game_of}
use Rattle.cg_arena.specs.OrderMemos.{AreRight}
use Rattle.cg_arena.proofs.Keeping.{Taking}
use Rattle.cg_arena.proofs.best.take_out.Given as goal

abbrev pub invariant-loop-at : goal.invariant-loop-at
invariant-loop-at l = record {
  right : AreRight l.arena l.answers;
  taking : Taking l.arena (λ c. not (at_most l.left c (game_of l.arena l.x))) l.fn.items.items l.items.items l.at;
}

abbrev pub decreases-loop-at : goal.decreases-loop-at
decreases-loop-at l = length l.items.items - l.at

use Rattle.std.proofs.Common.{◌≡◌, length}
use Rattle.cg_form.specs.Side.{at_most, near}
use Rattle.cg_cert.specs.Positions.{position_at}
use Rattle.cg_cert.proofs.Choosing.{Searched}
use Rattle.cg_cert.proofs.choice.first_choice.Given as goal

abbrev pub invariant-loop-option : goal.invariant-loop-option
invariant-loop-option g l =
    let arena = l.fn.work.arena in
    (l.work ≡ l.fn.work) × Searched arena (at_most l.left (position_at arena l.other))
    (near l.left (position_at arena l.game)) l.rest l.place (length l.initial.rest)

abbrev pub decreases-loop-option : goal.decreases-loop-option
decreases-loop-option g l = length l.rest

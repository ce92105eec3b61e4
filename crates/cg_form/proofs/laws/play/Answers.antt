use Rattle.cg_form.proofs.Outcome.{confused-next, equal-previous, greater-left, left-greater, less-right, next-confused, previous-equal, right-less}
use Rattle.cg_form.proofs.Play.{left_survives-fold, left_survives-unfold, right_survives-fold, right_survives-unfold}
use Rattle.cg_form.proofs.laws.play.Goals as goal

pub returns-clause-left_second : goal.returns-clause-left_second
returns-clause-left_second c = λ g. (left_survives-unfold g, left_survives-fold g)

pub returns-clause-right_second : goal.returns-clause-right_second
returns-clause-right_second c = λ g. (right_survives-unfold g, right_survives-fold g)

pub returns-clause-won_by_left : goal.returns-clause-won_by_left
returns-clause-won_by_left c = λ g. (left-greater g, λ p. greater-left g p.0 p.1)

pub returns-clause-won_by_right : goal.returns-clause-won_by_right
returns-clause-won_by_right c = λ g. (right-less g, λ p. less-right g p.0 p.1)

pub returns-clause-won_by_previous : goal.returns-clause-won_by_previous
returns-clause-won_by_previous c = λ g. (previous-equal g, equal-previous g)

pub returns-clause-won_by_next : goal.returns-clause-won_by_next
returns-clause-won_by_next c = λ g. (next-confused g, λ p. confused-next g p.0 p.1)

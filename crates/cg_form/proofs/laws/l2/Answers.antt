use Rattle.cg_form.proofs.Negative.{le-negative, negative-le, sum-negative}
use Rattle.cg_form.proofs.SumOrder.{le-sum, sum-le}
use Rattle.cg_form.proofs.laws.l2.Goals as goal

pub returns-clause-sums : goal.returns-clause-sums
returns-clause-sums c = λ a b d. (sum-le a b d, le-sum a b d)

pub returns-clause-negatives : goal.returns-clause-negatives
returns-clause-negatives c = λ a b. (le-negative a b, negative-le a b)

pub returns-clause-inverse : goal.returns-clause-inverse
returns-clause-inverse c = sum-negative

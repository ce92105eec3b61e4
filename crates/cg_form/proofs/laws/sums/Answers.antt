use Rattle.cg_form.proofs.Negative.{negative-options}
use Rattle.cg_form.proofs.Sum.{sum-options}
use Rattle.cg_form.proofs.SumLaws.{assoc_sum, sum_assoc, sum_comm, sum_nothing}
use Rattle.cg_form.proofs.laws.sums.Goals as goal

pub returns-clause-sum_options : goal.returns-clause-sum_options
returns-clause-sum_options c = sum-options

pub returns-clause-negative_options : goal.returns-clause-negative_options
returns-clause-negative_options c = negative-options

pub returns-clause-commutative : goal.returns-clause-commutative
returns-clause-commutative c = λ g h. (sum_comm g h, sum_comm h g)

pub returns-clause-associative : goal.returns-clause-associative
returns-clause-associative c = λ g h k. (sum_assoc g h k, assoc_sum g h k)

pub returns-clause-neutral : goal.returns-clause-neutral
returns-clause-neutral c = sum_nothing

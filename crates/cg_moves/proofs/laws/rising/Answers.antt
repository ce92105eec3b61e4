use Rattle.cg_moves.proofs.RisingLemmas.{in-rising, rising-in, rising-rises}
use Rattle.cg_moves.proofs.laws.rising.Goals as goal

pub returns-clause-order : goal.returns-clause-order
returns-clause-order c = rising-rises

pub returns-clause-members : goal.returns-clause-members
returns-clause-members c = λ xs x. (rising-in xs x, in-rising xs x)

use Rattle.cg_form.proofs.Play.{equal-second_wins, le-survives, second_wins-equal, survives-le}
use Rattle.cg_form.proofs.Preorder.{le_refl, le_trans}
use Rattle.cg_form.proofs.laws.l1.Goals as goal

pub returns-clause-reflexive : goal.returns-clause-reflexive
returns-clause-reflexive c = le_refl

pub returns-clause-transitive : goal.returns-clause-transitive
returns-clause-transitive c = le_trans

pub returns-clause-play : goal.returns-clause-play
returns-clause-play c = λ g h. (le-survives g h, survives-le g h)

pub returns-clause-second_wins : goal.returns-clause-second_wins
returns-clause-second_wins c = λ g h. (equal-second_wins g h, second_wins-equal g h)

use Rattle.cg_graph.proofs.RedBlue.{cut-greater, cut-less, moved-red_blue, red_blue-number}
use Rattle.cg_graph.proofs.Starts.{start-red_blue}
use Rattle.cg_graph.proofs.laws.l11.Goals as goal

pub returns-clause-left : goal.returns-clause-left
returns-clause-left c = λ edges p a fine. cut-less edges p fine a

pub returns-clause-right : goal.returns-clause-right
returns-clause-right c = λ edges p b fine. cut-greater edges p fine b

pub returns-clause-number : goal.returns-clause-number
returns-clause-number c = red_blue-number

pub returns-clause-again : goal.returns-clause-again
returns-clause-again c = moved-red_blue

pub returns-clause-start : goal.returns-clause-start
returns-clause-start c = start-red_blue

use Rattle.cg_graph.proofs.Cuts.{settled-settled}
use Rattle.cg_graph.proofs.PathLemmas.{joined-so, so-joined}
use Rattle.cg_graph.proofs.RedBlue.{moved-settled}
use Rattle.cg_graph.proofs.laws.paths.Goals as goal

pub returns-clause-joined : goal.returns-clause-joined
returns-clause-joined c = λ edges cells k. (joined-so edges cells k, so-joined edges cells k)

pub returns-clause-settled : goal.returns-clause-settled
returns-clause-settled c = settled-settled

pub returns-clause-after : goal.returns-clause-after
returns-clause-after c = moved-settled

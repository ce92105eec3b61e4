use Rattle.cg_graph.proofs.ColouringLaw.{colouring_lawful}
use Rattle.cg_graph.proofs.HackenbushLaw.{hackenbush_lawful}
use Rattle.cg_graph.proofs.laws.lawful.Goals as goal

pub returns-clause-hackenbush : goal.returns-clause-hackenbush
returns-clause-hackenbush c = hackenbush_lawful

pub returns-clause-colouring : goal.returns-clause-colouring
returns-clause-colouring c = colouring_lawful

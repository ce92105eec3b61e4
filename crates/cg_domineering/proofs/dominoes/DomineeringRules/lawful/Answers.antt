use Rattle.cg_domineering.proofs.DomineeringLaw.{domineering_lawful}
use Rattle.cg_domineering.proofs.dominoes.DomineeringRules.lawful.Goals as goal

pub returns : goal.returns
returns c = domineering_lawful

use Rattle.cg_strip.proofs.ToadsLaw.{toads_lawful}
use Rattle.cg_strip.proofs.toads.ToadsRules.lawful.Goals as goal

pub returns : goal.returns
returns c = toads_lawful

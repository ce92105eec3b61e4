use Rattle.cg_amazons.proofs.AmazonsLaw.{amazons_lawful}
use Rattle.cg_amazons.proofs.amazons.AmazonsRules.lawful.Goals as goal

pub returns : goal.returns
returns c = amazons_lawful

use Rattle.cg_clobber.proofs.ClobberLaw.{clobber_lawful}
use Rattle.cg_clobber.proofs.stones.ClobberRules.lawful.Goals as goal

pub returns : goal.returns
returns c = clobber_lawful

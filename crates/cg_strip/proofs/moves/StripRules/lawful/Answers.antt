use Rattle.cg_strip.proofs.StripLaw.{strip_lawful}
use Rattle.cg_strip.proofs.moves.StripRules.lawful.Goals as goal

pub returns : goal.returns
returns c = strip_lawful c.args.self.now

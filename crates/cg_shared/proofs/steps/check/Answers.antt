use Rattle.cg_shared.proofs.Allowed.{check_allowed}
use Rattle.cg_shared.proofs.steps.check.Goals as goal

pub load-requires : goal.load-requires
load-requires g c = (c.requires.table.0, c.requires.table.1, check_allowed g.F.Facts.meaning g.met.F.Facts.lawful c.args.shared.now.key _ _ _ c.requires.live c.args.word)

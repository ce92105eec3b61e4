use Rattle.cg_shared.proofs.Allowed.{draw_allowed}
use Rattle.cg_shared.proofs.steps.draw.Goals as goal

pub fetch_add-requires : goal.fetch_add-requires
fetch_add-requires g c = (c.requires.table.0, c.requires.table.1, draw_allowed g.F.Facts.meaning g.met.F.Facts.lawful c.args.shared.now.key _ _ _ c.requires.live c.requires.more)

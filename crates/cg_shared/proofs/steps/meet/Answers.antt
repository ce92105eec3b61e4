use Rattle.cg_shared.proofs.Allowed.{join_allowed}
use Rattle.cg_shared.proofs.steps.meet.Goals as goal

pub join_seat-requires : goal.join_seat-requires
join_seat-requires g c = (c.requires.table.0, c.requires.table.1, c.requires.free, c.requires.table.2, join_allowed g.F.Facts.meaning g.met.F.Facts.lawful c.args.shared.now.key 0 _ c.args.seat.now.me c.requires.live.0 c.requires.search.0 _ _ c.requires.live.1 c.requires.search.1)

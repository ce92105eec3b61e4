use Rattle.std.proofs.Common.{sym, subst}
use Rattle.cg_cells.specs.Sure.{Sure}
use Rattle.cg_shared.proofs.Telling.{split_sure}
use Rattle.cg_shared.proofs.Allowed.{split_allowed}
use Rattle.cg_shared.proofs.steps.split.Goals as goal

pub split_seat-requires : goal.split_seat-requires
split_seat-requires g c = (c.requires.table.0, c.requires.table.1, split_allowed g.F.Facts.meaning g.met.F.Facts.lawful c.args.shared.now.key 0 _ c.args.seat.now.me c.requires.live g.H.Heirs.heirs c.requires.heirs)

pub returns-clause-sure : goal.returns-clause-sure
returns-clause-sure g c =
    let r = split_sure g.F.Facts.meaning g.met.F.Facts.lawful g.H.Heirs.heirs c.args.seat.now.me.0 c.requires.live c.requires.heirs c.requires.sure in
    (subst (λ me. Sure g.F.Facts.meaning me.0) (sym c.split_seat.ensures.2) r.0, subst (λ me. Sure g.F.Facts.meaning me.0) (sym c.split_seat.ensures.4) r.1)

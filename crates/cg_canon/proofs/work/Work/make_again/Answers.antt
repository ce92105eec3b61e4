use Rattle.std.proofs.Common.{refl}
use Rattle.cg_canon.proofs.MakingAt.{entered_own}
use Rattle.cg_canon.proofs.Paying.{paid_holds}
use Rattle.cg_canon.proofs.work.Work.make_again.Goals as goal

pub invariant_of-self : goal.invariant_of-self
invariant_of-self g c =
    let s = g.S.CellStore.state c.self.inside.store.now in
    let h = c.self.inside.cache in
    paid_holds s s c.self.inside.meter c.known_at.new.meter c.self.inside.start h h.memo _ c.args.extra _ c.self.invariant
    c.known_at.ensures.entered.paid c.self.invariant.1.interner refl

pub returns-clause-own : goal.returns-clause-own
returns-clause-own g c =
    entered_own c.known_at.result c.made_game.result c.args.game c.made_game.ensures c.known_at.ensures.own

use Rattle.std.proofs.Common.{refl}
use Rattle.cg_canon.proofs.Paying.{paid_holds}
use Rattle.cg_canon.proofs.work.Work.make_of_terms.Goals as goal

pub invariant_of-self : goal.invariant_of-self
invariant_of-self g c =
    let h = c.self.inside.cache in
    paid_holds (g.S.CellStore.state c.self.inside.store.now) (g.S.CellStore.state c.canonical_at.new.store) c.self.inside.meter c.canonical_at.new.meter
    c.self.inside.start h (record h.memo { interner = c.canonical_at.new.interner }) _ c.args.extra _ c.self.invariant
    c.canonical_at.ensures.entered.paid c.canonical_at.ensures.holds refl

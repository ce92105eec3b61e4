use Rattle.std.proofs.Common.{arith}
use Rattle.cg_canon.proofs.Holding.{work_later}
use Rattle.cg_canon.proofs.work.WorkCellStoreGameFacts.claim.Goals as goal

pub invariant_of-self : goal.invariant_of-self
invariant_of-self g c =
    let spare = rw (← c.self.view_is) at c.requires.spare in
    work_later 1 (g.S.CellStore.state c.self.inside.store.now) (g.S.CellStore.state c.claim.new.self) c.self.inside.meter.spent c.self.inside.meter.share
    c.self.inside.start c.self.inside.cache
    c.self.invariant c.claim.ensures.spends (omega (arith, spare))

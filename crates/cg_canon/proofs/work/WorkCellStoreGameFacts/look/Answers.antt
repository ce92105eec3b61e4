use Rattle.std.proofs.Common.{arith}
use Rattle.cg_canon.proofs.Holding.{work_later}
use Rattle.cg_canon.proofs.work.WorkCellStoreGameFacts.look.Goals as goal

pub invariant_of-self : goal.invariant_of-self
invariant_of-self g c =
    let room = c.self.invariant.0.enough in
    work_later 0 (g.S.CellStore.state c.self.inside.store.now) (g.S.CellStore.state c.look.new.self) c.self.inside.meter.spent c.self.inside.meter.share
    c.self.inside.start c.self.inside.cache
    c.self.invariant c.look.ensures.spends (omega arith)

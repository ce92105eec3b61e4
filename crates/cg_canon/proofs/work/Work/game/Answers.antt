use Rattle.cg_canon.proofs.Holding.{searched}
use Rattle.cg_canon.proofs.work.Work.game.Goals as goal

pub invariant_of-self : goal.invariant_of-self
invariant_of-self g c =
    searched (g.S.CellStore.state c.self.inside.store.now) (g.S.CellStore.state c.game_of_handle.new.store) c.self.inside.meter.spent c.self.inside.meter.share
    c.self.inside.start
    c.self.inside.cache c.game_of_handle.new.interner c.self.invariant c.game_of_handle.ensures.spends c.game_of_handle.ensures.holds

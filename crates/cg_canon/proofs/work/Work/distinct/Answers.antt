use Rattle.cg_canon.proofs.InternerHandles.{games_apart}
use Rattle.cg_canon.proofs.work.Work.distinct.Goals as goal

pub returns : goal.returns
returns g c =
    rw (← c.self.view_is) ((games_apart (g.S.CellStore.state c.self.inside.store.now) c.self.inside.cache.memo.interner
    c.self.invariant.1.interner c.apart.ensures).each)

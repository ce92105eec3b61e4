use Rattle.cg_canon.specs.Cache.{knowing}
use Rattle.cg_canon.proofs.Holding.{cache_anyhow, cache_later}
use Rattle.cg_canon.proofs.work.Work.take_cache.Goals as goal

pub invariant_of-self : goal.invariant_of-self
invariant_of-self g c =
    let s = g.S.CellStore.state c.self.inside.store.now in
    (c.self.invariant.0, rw c.replace.ensures.after (cache_anyhow s c.new.result c.new.ensures.holds))

pub returns-clause-cache : goal.returns-clause-cache
returns-clause-cache g c =
    let s = g.S.CellStore.state c.self.inside.store.now in
    let taken = rw (← c.replace.ensures.value) at (cache_later s (knowing s.known) c.self.inside.cache (λ i x e. e) c.self.invariant.1) in
    rw (← c.self.view_is) (cache_later (knowing s.known) s c.for_later.result (λ i x e. e) (c.for_later.ensures s.known taken))

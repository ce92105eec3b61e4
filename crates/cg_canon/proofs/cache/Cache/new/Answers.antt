use Rattle.cg_canon.specs.Cache.{knowing}
use Rattle.cg_canon.proofs.InternerSteps.{new_holds}
use Rattle.cg_canon.proofs.Holding.{cache_nothing}
use Rattle.cg_canon.proofs.cache.Cache.new.Goals as goal

pub returns-clause-holds : goal.returns-clause-holds
returns-clause-holds c known =
    cache_nothing (knowing known) (record { memo = c.new.result; made = c.new-2.result; marks = c.new-3.result })
    (new_holds (knowing known) c.new.result.interner c.new.ensures.arena c.new.ensures.handles c.new.ensures.answers c.new.ensures.apart
    c.new.ensures.pairs c.new.ensures.recognized) c.new.ensures.sums c.new-2.ensures

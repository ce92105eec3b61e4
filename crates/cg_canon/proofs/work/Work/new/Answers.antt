use Rattle.cg_canon.proofs.Holding.{cache_anyhow}
use Rattle.cg_canon.proofs.work.Work.new.Goals as goal

pub resume-requires-clause-cache : goal.resume-requires-clause-cache
resume-requires-clause-cache g c = cache_anyhow (g.S.CellStore.state c.args.store.now) c.new.result c.new.ensures.holds

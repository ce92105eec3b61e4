use Rattle.cg_canon.proofs.Holding.{cache_anyhow}
use Rattle.cg_eval.proofs.reply.answer_query.Goals as goal

pub answer_query_cached-requires-clause-cache : goal.answer_query_cached-requires-clause-cache
answer_query_cached-requires-clause-cache g c =
    cache_anyhow (g.S.CellStore.state c.args.store.now) c.new-cache.result c.new-cache.ensures.holds

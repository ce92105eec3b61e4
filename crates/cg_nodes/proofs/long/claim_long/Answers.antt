use Rattle.cg_nodes.proofs.Later.{spends_then}
use Rattle.cg_nodes.proofs.long.claim_long.Goals as goal

pub returns-clause-spends : goal.returns-clause-spends
returns-clause-spends g c = spends_then 2 1 (g.S.CellStore.state c.args.store.now) (g.S.CellStore.state c.chunks-first.new.store)
    (g.S.CellStore.state c.claim.new.self) c.chunks-first.ensures.spends c.claim.ensures.spends

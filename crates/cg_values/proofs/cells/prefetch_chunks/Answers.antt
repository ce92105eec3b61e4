use Rattle.cg_nodes.proofs.Later.{nothing_spent, spends_then}
use Rattle.cg_values.proofs.cells.prefetch_chunks.Goals as goal

pub loop-content-init : goal.loop-content-init
loop-content-init g c = nothing_spent (g.S.CellStore.state c.args.store.now)

pub loop-content-preserved : goal.loop-content-preserved
loop-content-preserved g c = spends_then 0 0 _ _ _ c.loop-content.invariant c.prefetch_claim.ensures

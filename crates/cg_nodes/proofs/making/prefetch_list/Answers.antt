use Rattle.cg_nodes.proofs.Later.{nothing_spent, spends_then}
use Rattle.cg_nodes.proofs.making.prefetch_list.Goals as goal

pub loop-option-init : goal.loop-option-init
loop-option-init g c = nothing_spent (g.S.CellStore.state c.args.store.now)

pub loop-option-preserved : goal.loop-option-preserved
loop-option-preserved g c = spends_then 0 0 _ _ _ c.loop-option.invariant c.prefetch_claim.ensures

use Rattle.cg_nodes.proofs.Later.{nothing_spent, spends_then}
use Rattle.cg_values.proofs.prefetching.prefetch_boards.Goals as goal

pub loop-board-init : goal.loop-board-init
loop-board-init g c = nothing_spent (g.S.CellStore.state c.args.store.now)

pub loop-board-preserved : goal.loop-board-preserved
loop-board-preserved g c = spends_then 0 0 _ _ _ c.loop-board.invariant c.prefetch_board.ensures

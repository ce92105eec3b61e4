use Rattle.cg_cells.specs.Store.{Spends}
use Rattle.cg_nodes.proofs.making.prefetch_list.Given as goal

abbrev pub invariant-loop-option : goal.invariant-loop-option
invariant-loop-option g l = Spends 0 (g.S.CellStore.state l.initial.store) (g.S.CellStore.state l.store)

use Rattle.cg_cells.specs.Store.{Spends}
use Rattle.cg_values.proofs.cells.prefetch_chunks.Given as goal

abbrev pub invariant-loop-content : goal.invariant-loop-content
invariant-loop-content g l = Spends 0 (g.S.CellStore.state l.initial.store) (g.S.CellStore.state l.store)

use Rattle.cg_cells.specs.Store.{Spends}
use Rattle.cg_values.proofs.prefetching.prefetch_boards.Given as goal

abbrev pub invariant-loop-board : goal.invariant-loop-board
invariant-loop-board g l = Spends 0 (g.S.CellStore.state l.initial.store) (g.S.CellStore.state l.store)

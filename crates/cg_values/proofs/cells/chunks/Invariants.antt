use Rattle.std.proofs.Common.{◌<◌, ◌-◌, length, drop, Some}
use Rattle.cg_cells.specs.Store.{Spends}
use Rattle.cg_values.specs.Chunks.{ChunksAs}
use Rattle.cg_values.proofs.cells.chunks.Given as goal

abbrev pub invariant-loop-left : goal.invariant-loop-left
invariant-loop-left g l = record {
  inside : l.left < length l.contents;
  chunks : ChunksAs (g.S.CellStore.state l.store) (Some l.first) (drop l.left l.contents);
  spends : Spends (length l.contents - l.left) (g.S.CellStore.state l.fn.store) (g.S.CellStore.state l.store);
}

abbrev pub decreases-loop-left : goal.decreases-loop-left
decreases-loop-left g l = l.left

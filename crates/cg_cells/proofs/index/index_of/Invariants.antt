use Rattle.std.proofs.Common.{◌≡◌, length}
use Rattle.std.specs.Prelude.{slice_index}
use Rattle.cg_cells.specs.Index.{IsIndex}
use Rattle.cg_cells.proofs.index.index_of.Given as goal

-- the cells so far are in the index
abbrev pub invariant-loop-cell : goal.invariant-loop-cell
invariant-loop-cell g l = (length l.index.items ≡ length l.keys) × IsIndex g.F.Facts.meaning (length l.keys) (slice_index l.keys) (slice_index l.index.items) l.cell

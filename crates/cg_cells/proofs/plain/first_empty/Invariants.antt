use Rattle.std.proofs.Common.{◌≢◌, ℕ, ◌<◌}
use Rattle.std.specs.Prelude.{slice_index}
use Rattle.cg_cells.proofs.plain.first_empty.Given as goal

abbrev pub invariant-loop-cell : goal.invariant-loop-cell
invariant-loop-cell l = (i : ℕ) → i < l.cell → slice_index l.keys i ≢ 0

use Rattle.std.proofs.Common.{◌≢◌, ℕ, ◌<◌, ◌-◌, length}
use Rattle.std.specs.Prelude.{slice_index}
use Rattle.cg_cells.specs.Index.{place}
use Rattle.cg_cells.proofs.index.probe.Given as goal

-- the slots passed are full, and none of their cells has the key
abbrev pub invariant-loop-steps : goal.invariant-loop-steps
invariant-loop-steps g l = (k : ℕ) → k < l.steps
    → (slice_index l.index (place (length l.index) l.home k) ≢ 0) × (slice_index l.keys (slice_index l.index (place (length l.index) l.home k) - 1) ≢ l.key)

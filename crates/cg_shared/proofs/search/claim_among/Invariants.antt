use Rattle.std.proofs.Common.{◌≡◌, ℕ, ◌+◌, ◌-◌, ◌<◌, ◌≤◌}
use Rattle.cg_cells.specs.Steps.{GoesOn}
use Rattle.cg_cells.specs.Views.{cells_of}
use Rattle.cg_shared.specs.Plays.{sizes_of}
use Rattle.cg_shared.specs.Searches.{AreTurns}
use Rattle.cg_shared.proofs.search.claim_among.Given as goal

abbrev pub invariant-loop-cell : goal.invariant-loop-cell
invariant-loop-cell g l =
    (l.seat.table_id ≡ l.fn.seat.table_id) × (l.seat.me.1 ≡ l.fn.seat.me.1) × (l.first ≤ l.cell) × (l.cell ≤ l.end)
    × GoesOn l.seat.me.0.probe l.key (l.steps + (l.cell - l.first))
    × (l.seat.me.0 ≡ record l.fn.seat.me.0 { probe = l.seat.me.0.probe; made = l.seat.me.0.made })
    × ((n : ℕ) × AreTurns l.key n l.fn.seat.me.0.made l.seat.me.0.made)
    × (l.steps + (l.cell - l.first) < cells_of (sizes_of l.shared.key))

abbrev pub decreases-loop-cell : goal.decreases-loop-cell
decreases-loop-cell g l = l.end - l.cell

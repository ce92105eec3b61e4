use Rattle.std.proofs.Common.{◌≡◌, ℕ, ◌+◌, ◌-◌, ◌^◌, ◌<◌, ◌≤◌, length, map, bit_or}
use Rattle.std.specs.Int.{bit_at}
use Rattle.cg_moves.specs.Grid.{with_cells}
use Rattle.cg_strip.specs.Hops.{hops_below}
use Rattle.cg_strip.proofs.hopping.hops_on.Given as goal

-- the hops of the cells below the next one are made, and the others are left
abbrev pub invariant-loop-left : goal.invariant-loop-left
invariant-loop-left l =
    (l.next ≤ length l.board.cells) × (l.left < 2 ^ 64)
    × ((i : ℕ) → bit_at l.left i ≡ bit_at (bit_or l.words.steps l.words.jumps) (i + l.next))
    × (l.boards.items ≡ map (with_cells l.board) (hops_below l.player l.board.cells l.next))

abbrev pub decreases-loop-left : goal.decreases-loop-left
decreases-loop-left l = length l.board.cells - l.next

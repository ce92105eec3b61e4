use Rattle.std.proofs.Common.{◌≡◌, true, length, []}
use Rattle.cg_moves.specs.Grid.{with_cells}
use Rattle.cg_moves.proofs.SetBits.{AreListed}
use Rattle.cg_domineering.specs.Moves.{fits, moves_at}
use Rattle.cg_domineering.proofs.dominoes.boards_in.Given as goal

abbrev pub invariant-loop-left : goal.invariant-loop-left
invariant-loop-left l =
    AreListed (with_cells l.board) (moves_at l.player l.board) (λ k. k) (length l.board.cells)
    (λ k. fits l.player l.board k ≡ true) l.left [] l.boards.items

abbrev pub decreases-loop-left : goal.decreases-loop-left
decreases-loop-left l = l.left

use Rattle.std.proofs.Common.{◌-◌, ◌<◌, length}
use Rattle.cg_moves.specs.Grid.{with_cells}
use Rattle.cg_moves.proofs.SetBits.{AreListed}
use Rattle.cg_clobber.specs.Pairs.{toward_back}
use Rattle.cg_clobber.proofs.stones.put_all_toward.Given as goal

abbrev pub invariant-loop-left : goal.invariant-loop-left
invariant-loop-left l =
    AreListed (with_cells l.board) (toward_back l.player l.board) (λ k. length l.board.cells - 1 - k) (length l.board.cells)
    (λ k. k < length l.board.cells) l.left l.initial.boards.items l.boards.items

abbrev pub decreases-loop-left : goal.decreases-loop-left
decreases-loop-left l = l.left

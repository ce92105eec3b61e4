use Rattle.std.proofs.Common.{◌≤◌, ◌-◌}
use Rattle.cg_pieces.proofs.Columns.{IsReached}
use Rattle.cg_pieces.proofs.frame.left_edge.Given as goal

abbrev pub invariant-loop-column : goal.invariant-loop-column
invariant-loop-column l = IsReached l.board l.set (λ edge column. edge ≤ column) l.left l.column

abbrev pub decreases-loop-column : goal.decreases-loop-column
decreases-loop-column l = l.board.columns - l.left

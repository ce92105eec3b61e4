use Rattle.std.proofs.Common.{◌-◌, ◌*◌, ◌≤◌}
use Rattle.cg_moves.proofs.ColumnWords.{IsColumn}
use Rattle.cg_moves.proofs.words.first_column.Given as goal

abbrev pub invariant-loop-height : goal.invariant-loop-height
invariant-loop-height l = record {
  column : IsColumn l.columns l.cells l.height;
  some : 1 ≤ l.height;
}

abbrev pub decreases-loop-height : goal.decreases-loop-height
decreases-loop-height l = l.rows * l.columns - l.height

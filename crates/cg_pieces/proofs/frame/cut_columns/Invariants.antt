use Rattle.std.proofs.Common.{◌≡◌, ℕ, ◌-◌, ◌≤◌}
use Rattle.std.specs.Int.{bit_at}
use Rattle.cg_pieces.proofs.RowWords.{IsLater, cut}
use Rattle.cg_pieces.proofs.frame.cut_columns.Given as goal

abbrev pub invariant-loop-row : goal.invariant-loop-row
invariant-loop-row l = record {
  later : 1 ≤ l.row;
  found : (m : ℕ) → bit_at l.found m ≡ cut l.word l.columns l.frame l.row m;
  rest : IsLater l.word l.columns l.frame (l.row - 1) l.rest;
}

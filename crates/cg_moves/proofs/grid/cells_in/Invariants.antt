use Rattle.std.proofs.Common.{◌≡◌, ◌++◌, ◌≤◌, drop, length, take}
use Rattle.cg_moves.specs.Texts.{cells_of, rows_of}
use Rattle.cg_moves.proofs.grid.cells_in.Given as goal

abbrev pub invariant-loop-byte : goal.invariant-loop-byte
invariant-loop-byte l = record {
  long : length l.cells ≡ 64;
  few : l.size ≤ 64;
  rest : cells_of (rows_of l.one_row l.text) ≡ take l.size l.cells ++ cells_of (rows_of l.one_row (drop l.byte-index l.text));
}

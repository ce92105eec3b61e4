use Rattle.std.proofs.Common.{◌≡◌, ◌+◌, ◌≤◌, drop, length}
use Rattle.cg_moves.specs.Texts.{cells_of, rows_of}
use Rattle.cg_moves.proofs.grid.size_of.Given as goal

abbrev pub invariant-loop-byte : goal.invariant-loop-byte
invariant-loop-byte l = record {
  few : l.size ≤ l.byte-index;
  rest : length (cells_of (rows_of l.one_row l.text)) ≡ l.size + length (cells_of (rows_of l.one_row (drop l.byte-index l.text)));
}

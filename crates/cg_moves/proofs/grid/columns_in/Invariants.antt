use Rattle.std.proofs.Common.{◌≡◌, ◌+◌, length, drop}
use Rattle.cg_moves.specs.Texts.{cut, first_row}
use Rattle.cg_moves.proofs.grid.columns_in.Given as goal

abbrev pub invariant-loop-byte : goal.invariant-loop-byte
invariant-loop-byte l = record {
  columns : l.columns ≡ l.byte-index;
  rest : length (first_row (cut l.text)) ≡ l.byte-index + length (first_row (cut (drop l.byte-index l.text)));
}

-- Boards of one row, for worked rows.
use Rattle.std.specs.Prelude.{ℕ, List, codes, length}
use Rattle.cg_moves.specs.Grid.{Grid}

abbrev pub row : List ℕ → Grid
row cells = record {
  rows = 1;
  columns = length cells;
  symbols = codes ".xo";
  cells = cells;
}

-- Boards for worked rows.
use Rattle.std.specs.Prelude.{ℕ, List, codes}
use Rattle.cg_moves.specs.Grid.{Grid}

abbrev pub of_cells : ℕ → ℕ → List ℕ → Grid
of_cells rows columns cells = record {
  rows = rows;
  columns = columns;
  symbols = codes ".#";
  cells = cells;
}

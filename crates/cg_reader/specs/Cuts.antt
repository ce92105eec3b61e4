-- Where a row is cut.
use Rattle.std.specs.Prelude.{ℕ, ◌≡◌, List, [], ◌∷◌, ◌++◌, length}
use Rattle.cg_grammar.specs.Braces.{Parts, cut_from}
use Rattle.cg_reader.specs.Views.{side_found, rows_of}
use Rattle.cg_reader.specs.declared.found.Row.{Row}

-- the first run of this length stands at this place of the rows, and they are cut there
pub record IsFirstRun (bars : ℕ) (rows : List Row) (place : ℕ) : Type 0 where
  pub front : List Row
  pub row : Row
  pub behind : List Row
  pub spelled : rows ≡ front ++ row ∷ behind
  pub size : length front ≡ place
  pub cut : cut_from [] bars (rows_of rows) ≡ Parts (rows_of front) (side_found row.side) (rows_of behind)

-- Boards, without where they lie in memory.
use Rattle.std.specs.Prelude.{◌≡◌, ℕ, ◌*◌, ◌<◌, ◌≤◌, ◌==◌, ◌&&◌, Bool, true, not, nat_le, nat_lt, List, [], ◌∷◌, length, slice_index, Contains}
use Rattle.std.specs.List.{list_all, list_any}
use Rattle.std.specs.Str.{bytes_eq}
use Rattle.cg_form.specs.Firsts.{In}

-- so many rows and columns, the symbols that a cell may have, and the cells, row by row
pub record Grid : Type 0 where
  pub rows : ℕ
  pub columns : ℕ
  pub symbols : List ℕ
  pub cells : List ℕ

-- a printable byte that isn't a bar
abbrev pub is_symbol : ℕ → Bool
is_symbol c = nat_le 32 c && nat_le c 126 && not (c == 124)

abbrev pub all_distinct : List ℕ → Bool
all_distinct [] = true
all_distinct (c ∷ cs) = not (list_any (λ d. d == c) cs) && all_distinct cs

-- 1 to 16 different symbols
abbrev pub are_symbols : List ℕ → Bool
are_symbols cs = nat_le 1 (length cs) && nat_le (length cs) 16 && list_all is_symbol cs && all_distinct cs

-- each cell has one of the symbols
abbrev pub AreCells : List ℕ → List ℕ → Type 0
AreCells symbols cells = (k : ℕ) → k < length cells → Contains symbols (slice_index cells k)

-- a board: a row of symbols, and 1 to 64 cells in rows and columns, each with one of the symbols
pub record IsGrid (p : Grid) : Type 0 where
  pub symbols : are_symbols p.symbols ≡ true
  pub size : length p.cells ≡ p.rows * p.columns
  pub some : 1 ≤ length p.cells
  pub few : length p.cells ≤ 64
  pub cells : AreCells p.symbols p.cells

-- there are columns, and the cells stand in rows of so many
abbrev pub is_in_rows : Grid → Bool
is_in_rows p = nat_lt 0 p.columns && (length p.cells == p.rows * p.columns)

-- the board with other cells
abbrev pub with_cells : Grid → List ℕ → Grid
with_cells p cells = record p { cells = cells }

-- the second board is the first but for its cells
abbrev pub IsLike : Grid → Grid → Type 0
IsLike p q = q ≡ with_cells p q.cells

-- the boards differ in their cells alone
abbrev pub AreAlike : List Grid → Type 0
AreAlike ps = (p q : Grid) → In p ps → In q ps → IsLike p q

-- whether the two are one board
abbrev pub is_same : Grid → Grid → Bool
is_same p q = (p.rows == q.rows) && (p.columns == q.columns) && bytes_eq p.symbols q.symbols && bytes_eq p.cells q.cells

-- The contents in which a board's cells are written: two bits for each cell, 16 cells in a content, the first cell in the
-- least bits, and 0 in the bits that are left. A cell's two bits are the index of its symbol in the game's row of symbols.
use Rattle.std.specs.Prelude.{◌≡◌, ℕ, zero, suc, ◌+◌, ◌-◌, ◌*◌, ◌/◌, ◌%◌, ◌<◌, ◌==◌, ◌&&◌, ◌⊎◌, Bool, min, nat_lt, if◌then◌else◌, List, [], ◌∷◌, ◌++◌, length}

-- how many symbols the game with this number has: 1 is Domineering with `.` `#`, 2 Clobber with `.` `x` `o`, 3 Amazons with
-- `.` `x` `o` `#`, 4 Toads with `.` `T` `F`, and there is no other
abbrev pub symbols : ℕ → ℕ
symbols number = if number == 1 then 2 else if number == 2 then 3 else if number == 3 then 4 else if number == 4 then
    3 else 0

-- ---- as a test

-- the first so many cells of the content hold one of so many symbols, and the rest is 0
abbrev pub are_symbols : ℕ → ℕ → ℕ → Bool
are_symbols zero count content = content == 0
are_symbols (suc cells) count content = nat_lt (content % 4) count && are_symbols cells count (content / 4)

-- the contents are those of a board of so many cells with so many symbols
abbrev pub are_contents : ℕ → ℕ → List ℕ → Bool
are_contents count cells [] = cells == 0
are_contents count cells (content ∷ rest) =
    nat_lt 0 cells && are_symbols (min 16 cells) count content && are_contents count (cells - 16) rest

-- the contents are those of a board of this game: it has 1 to 64 cells
abbrev pub are_of_board : ℕ → ℕ → ℕ → List ℕ → Bool
are_of_board number rows columns contents =
    nat_lt 0 (rows * columns) && nat_lt (rows * columns) 65 && are_contents (symbols number) (rows * columns) contents

-- ---- as it is written; the law function `boards` says that the test holds exactly of what is written

-- the content of the cells
abbrev pub content_of : List ℕ → ℕ
content_of [] = 0
content_of (cell ∷ cells) = cell + 4 * content_of cells

-- the contents of the cells: the first 16, while there are more, and then what is left
abbrev pub AreWritten : List ℕ → List ℕ → Type 0
AreWritten cells [] = cells ≡ []
AreWritten cells (content ∷ rest) = (front : List ℕ) × (others : List ℕ) × (cells ≡ front ++ others)
    × ((length front ≡ 16) ⊎ ((others ≡ []) × (0 < length front) × (length front < 16)))
    × (content ≡ content_of front) × AreWritten others rest

abbrev pub AreBelow : ℕ → List ℕ → Type 0
AreBelow count [] = Unit {0}
AreBelow count (cell ∷ cells) = (cell < count) × AreBelow count cells

-- some board of so many cells, each with one of so many symbols, is written in the contents
pub record IsBoard (count size : ℕ) (contents : List ℕ) : Type 0 where
  pub cells : List ℕ
  pub as_many : length cells ≡ size
  pub symbols_only : AreBelow count cells
  pub written : AreWritten cells contents

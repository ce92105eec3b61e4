-- What queens reach, in words.
use Rattle.std.specs.Prelude.{◌≡◌, ◌↔◌, ◌≢◌, ℕ, ◌*◌, ◌%◌, ◌<◌, ◌≤◌, ◌==◌, ◌&&◌, Bool, not, nat_lt}
use Rattle.std.specs.Prelude.{if◌then◌else◌, List, length, map, slice_index, Option, Some, Contains, true}
use Rattle.std.specs.Int.{bit_at}
use Rattle.std.specs.List.{range_with_len}
use Rattle.cg_moves.specs.Grid.{Grid}
use Rattle.cg_moves.specs.Words.{Marks}
use Rattle.cg_amazons.specs.declared.queens.QueenWords.{QueenWords}
use Rattle.cg_amazons.specs.declared.shape.Shape.{Shape}
use Rattle.cg_amazons.specs.Amazons.{amazons, empty, blocked, is_empty}

-- so many cells: empty where the bit of the word is 1, and blocked elsewhere
abbrev pub cells_of : ℕ → ℕ → List ℕ
cells_of free n = map (λ i. if bit_at free i == 1 then empty else blocked) (range_with_len 0 n)

-- the word has the bit of this cell alone, or no bit where there is none
abbrev pub IsCell : ℕ → Option ℕ → Type 0
IsCell word cell = (i : ℕ) → (bit_at word i ≡ 1) ↔ (cell ≡ Some i)

-- the cell, if there is one, is below n
abbrev pub IsBelow : ℕ → Option ℕ → Type 0
IsBelow n cell = (i : ℕ) → cell ≡ Some i → i < n

abbrev pub is_inner : ℕ → ℕ → ℕ → Bool
is_inner columns size i = nat_lt i size && not (i % columns == 0)

-- the words are those of all cells, and of all that aren't in the first column
pub record IsShape (s : Shape) : Type 0 where
  pub some : 1 ≤ s.columns
  pub few : s.rows * s.columns ≤ 64
  pub all : Marks s.all (λ i. nat_lt i (s.rows * s.columns))
  pub inner : Marks s.inner (is_inner s.columns (s.rows * s.columns))

-- the words are those of these cells and of a player's queens on them
pub record AreQueenWords (cells : List ℕ) (w : QueenWords) : Type 0 where
  pub shape : IsShape w.shape
  pub size : length cells ≡ w.shape.rows * w.shape.columns
  pub free : Marks w.free (is_empty cells)
  pub queens : Marks w.queens (λ i. slice_index cells i == w.queen)
  pub other : w.queen ≢ empty

-- the words are those of a board of the game, and the queens have one of its symbols
pub record AreWordsOf (p : Grid) (w : QueenWords) : Type 0 where
  pub has : amazons.has p ≡ true
  pub queen : Contains p.symbols w.queen
  pub words : AreQueenWords p.cells w

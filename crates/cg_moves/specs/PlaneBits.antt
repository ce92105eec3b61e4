-- The cells of a board in four words: bit i of word b is bit b of the index of cell i's symbol in the row of symbols.
use Rattle.std.specs.Prelude.{◌≡◌, ℕ, ◌+◌, ◌*◌, ◌==◌, nat_lt, if◌then◌else◌, List, length, map, slice_index}
use Rattle.std.specs.Int.{bit_at}
use Rattle.std.specs.List.{position_or_len, range_with_len}
use Rattle.cg_moves.specs.declared.planes.Planes.{Planes}
use Rattle.cg_moves.specs.Grid.{Grid, IsGrid}
use Rattle.cg_moves.specs.Words.{IsWithBit}

-- the index of the symbol in the row of symbols
abbrev pub index_of : List ℕ → ℕ → ℕ
index_of symbols symbol = position_or_len (λ s. s == symbol) symbols

-- bit b of the index of cell i's symbol, and 0 past the last cell
abbrev pub plane_bit : List ℕ → List ℕ → ℕ → ℕ → ℕ
plane_bit symbols cells b i =
    if nat_lt i (length cells) then bit_at (index_of symbols (slice_index cells i)) b else 0

-- the words 0 to 3 of these cells
pub record ArePlanes (symbols cells : List ℕ) (w : Planes) : Type 0 where
  pub a : (i : ℕ) → bit_at w.a i ≡ plane_bit symbols cells 0 i
  pub b : (i : ℕ) → bit_at w.b i ≡ plane_bit symbols cells 1 i
  pub c : (i : ℕ) → bit_at w.c i ≡ plane_bit symbols cells 2 i
  pub d : (i : ℕ) → bit_at w.d i ≡ plane_bit symbols cells 3 i

-- ---- what a board is by its words

-- the index that the words have at cell i
abbrev pub index_at : Planes → ℕ → ℕ
index_at w i = bit_at w.a i + 2 * bit_at w.b i + 4 * bit_at w.c i + 8 * bit_at w.d i

-- the first n cells by the words
abbrev pub cells_by : List ℕ → Planes → ℕ → List ℕ
cells_by symbols w n = map (λ i. slice_index symbols (index_at w i)) (range_with_len 0 n)

abbrev pub grid_by : ℕ → ℕ → List ℕ → Planes → Grid
grid_by rows columns symbols w =
    record { rows = rows; columns = columns; symbols = symbols; cells = cells_by symbols w (rows * columns) }

-- the words are those of a board
pub record IsGridBy (rows columns : ℕ) (symbols : List ℕ) (w : Planes) : Type 0 where
  pub grid : IsGrid (grid_by rows columns symbols w)
  pub planes : ArePlanes symbols (cells_by symbols w (rows * columns)) w

-- the words with another index at the cell
pub record IsWithIndex (w new : Planes) (cell index : ℕ) : Type 0 where
  pub a : IsWithBit w.a new.a cell (bit_at index 0)
  pub b : IsWithBit w.b new.b cell (bit_at index 1)
  pub c : IsWithBit w.c new.c cell (bit_at index 2)
  pub d : IsWithBit w.d new.d cell (bit_at index 3)

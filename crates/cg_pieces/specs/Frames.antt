-- Rows and columns of a board, from a first row and column on.
use Rattle.std.specs.Prelude.{◌≡◌, ℕ, ◌+◌, ◌*◌, ◌<◌, ◌≤◌, nat_lt, if◌then◌else◌}
use Rattle.std.specs.Int.{bit_at}
use Rattle.cg_pieces.specs.declared.frame.Frame.{Frame}
use Rattle.cg_pieces.specs.Boxes.{Box, column_of, unboxed}

abbrev pub box_from : Frame → Box
box_from b = record {
  top = b.top;
  left = b.left;
  rows = b.rows;
  columns = b.columns;
}

-- there are cells in these rows and columns, all of which are on a board in rows of this width with 64 cells at most
pub record IsBoxIn (width : ℕ) (b : Box) : Type 0 where
  pub some_rows : 1 ≤ b.rows
  pub some_columns : 1 ≤ b.columns
  pub wide : b.left + b.columns ≤ width
  pub few : (b.top + b.rows) * width ≤ 64

-- the bits of the word at the places of the box, one row behind the other, and no others
abbrev pub IsCutOut : ℕ → ℕ → Frame → ℕ → Type 0
IsCutOut word width f cut = (m : ℕ) → bit_at cut m
    ≡ (if nat_lt m (f.rows * f.columns) then bit_at word (unboxed (box_from f) width m) else 0)

-- a column with cells of the set, to which the columns of all its cells stand so
pub record IsEdge (stands : ℕ → ℕ → Type 0) (width set edge : ℕ) : Type 0 where
  pub cell : ℕ
  pub in_set : bit_at set cell ≡ 1
  pub column : column_of width cell ≡ edge
  pub each : (k : ℕ) → bit_at set k ≡ 1 → stands edge (column_of width k)

-- the cells of one column, where rows have this width and the board so many cells
pub record IsColumn (width size column word : ℕ) : Type 0 where
  pub only : (k : ℕ) → bit_at word k ≡ 1 → column_of width k ≡ column
  pub all : (k : ℕ) → k < size → column_of width k ≡ column → bit_at word k ≡ 1

-- The board of a set of cells: the rows and columns that bound it, with all other cells blank.
use Rattle.std.specs.Prelude.{ℕ, suc, ◌+◌, ◌-◌, ◌*◌, ◌/◌, ◌%◌, Bool, nat_le, if◌then◌else◌, List, [], ◌∷◌, filter, length, map, slice_index}
use Rattle.cg_moves.specs.Grid.{Grid}
use Rattle.cg_moves.specs.Rising.{counted}

-- the row and the column of a cell where rows have this width, and the cell there
abbrev pub row_of : ℕ → ℕ → ℕ
row_of width k = k / width

abbrev pub column_of : ℕ → ℕ → ℕ
column_of width k = k % width

abbrev pub cell_at : ℕ → ℕ → ℕ → ℕ
cell_at width row column = width * row + column

-- the least and the greatest of a list, which are asked only of lists that are not empty
abbrev pub least_of : List ℕ → ℕ
least_of [] = 0
least_of (x ∷ []) = x
least_of (x ∷ (y ∷ ys)) = if nat_le x (least_of (y ∷ ys)) then x else least_of (y ∷ ys)

abbrev pub greatest_of : List ℕ → ℕ
greatest_of [] = 0
greatest_of (x ∷ []) = x
greatest_of (x ∷ (y ∷ ys)) = if nat_le (greatest_of (y ∷ ys)) x then x else greatest_of (y ∷ ys)

-- so many rows and columns from a first row and column on
pub record Box : Type 0 where
  pub top : ℕ
  pub left : ℕ
  pub rows : ℕ
  pub columns : ℕ

-- the rows and columns that bound the cells
unfoldable pub box_of : ℕ → List ℕ → Box
box_of width ks =
    let rows = map (row_of width) ks in
    let columns = map (column_of width) ks in record {
      top = least_of rows;
      left = least_of columns;
      rows = suc (greatest_of rows - least_of rows);
      columns = suc (greatest_of columns - least_of columns);
    }

-- where a cell stands in the box, and which cell stands there
abbrev pub boxed : Box → ℕ → ℕ → ℕ
boxed b width k = cell_at b.columns (row_of width k - b.top) (column_of width k - b.left)

abbrev pub unboxed : Box → ℕ → ℕ → ℕ
unboxed b width m = cell_at width (b.top + row_of b.columns m) (b.left + column_of b.columns m)

-- the cells of the board in the set
abbrev pub members : (ℕ → Bool) → Grid → List ℕ
members in_set p = filter in_set (counted 0 (length p.cells))

abbrev pub set_box : (ℕ → Bool) → Grid → Box
set_box in_set p = box_of p.columns (members in_set p)

-- the cell if it is in the set, and else blank
abbrev pub shown_cell : ℕ → (ℕ → Bool) → List ℕ → ℕ → ℕ
shown_cell blank in_set cells k = if in_set k then slice_index cells k else blank

-- the board of the set
unfoldable pub cropped : ℕ → (ℕ → Bool) → Grid → Grid
cropped blank in_set p =
    let b = set_box in_set p in record {
      rows = b.rows;
      columns = b.columns;
      symbols = p.symbols;
      cells = map (λ m. shown_cell blank in_set p.cells (unboxed b p.columns m)) (counted 0 (b.rows * b.columns));
    }

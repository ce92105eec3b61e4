-- Sets of cells in words: bit i is 1 exactly where cell i is in the set.
use Rattle.std.specs.Prelude.{◌≡◌, ◌⊎◌, ℕ, ◌<◌, ◌≤◌, ◌==◌, ◌||◌, Bool, true, length}
use Rattle.std.specs.Int.{bit_at}
use Rattle.cg_moves.specs.Grid.{Grid}
use Rattle.cg_moves.specs.Words.{Marks}
use Rattle.cg_pieces.specs.declared.field.Field.{Field}
use Rattle.cg_pieces.specs.Boxes.{column_of}
use Rattle.cg_pieces.specs.Cells.{Linked}
use Rattle.cg_pieces.specs.Neighbours.{Neighbours, are_joined, is_below, is_beside, is_least, is_next, is_piece_cell}

-- the bits of the first word are bits of the second
abbrev pub IsWithin : ℕ → ℕ → Type 0
IsWithin a b = (k : ℕ) → bit_at a k ≡ 1 → bit_at b k ≡ 1

-- there are 1 to 64 columns, and of the open cells those of the first column are known
pub record IsField (f : Field) : Type 0 where
  pub wide : 0 < f.columns
  pub few : f.columns ≤ 64
  pub starts : (k : ℕ) → bit_at f.cells k ≡ 1 → column_of f.columns k ≡ 0 → bit_at f.first_column k ≡ 1
  pub others : (k : ℕ) → bit_at f.cells k ≡ 1 → ¬ (column_of f.columns k ≡ 0) → bit_at f.first_column k ≡ 0

-- the open cells are those of the board that form pieces
pub record IsFieldOf (n : Neighbours) (p : Grid) (f : Field) : Type 0 where
  pub field : IsField f
  pub columns : f.columns ≡ p.columns
  pub cells : Marks f.cells (is_piece_cell n p)

-- a cell of the set that is adjacent to this one
pub record NextIn (f : Field) (set k : ℕ) : Type 0 where
  pub other : ℕ
  pub in_set : bit_at set other ≡ 1
  pub next : is_next f.columns other k ≡ true

-- the one cell is directly above the other, or the other above it
abbrev pub is_in_column : ℕ → ℕ → ℕ → Bool
is_in_column width k l = is_below width k l || is_below width l k

-- the cells are next to each other in a row
abbrev pub is_in_row : ℕ → ℕ → ℕ → Bool
is_in_row width k l = is_beside width k l || is_beside width l k

-- the set with the open cells that stand so to one of it
pub record IsNextBy (f : Field) (stands : ℕ → ℕ → Bool) (set more : ℕ) : Type 0 where
  pub within : IsWithin more f.cells
  pub grows : IsWithin set more
  pub only : (k : ℕ) → bit_at more k ≡ 1 → (bit_at set k ≡ 1) ⊎ NextIn f set k
  pub all : (k l : ℕ) → bit_at set k ≡ 1 → bit_at f.cells l ≡ 1 → stands k l ≡ true → bit_at more l ≡ 1

-- a row of open cells, each adjacent to the next, leads from one to the other
abbrev pub JoinedIn : Field → ℕ → ℕ → Type 0
JoinedIn f k l = Linked (λ m. bit_at f.cells m == 1) (is_next f.columns) k l

-- the set with the open cells that are adjacent to one of it, and maybe others that are joined with it
pub record IsNextSet (f : Field) (set more : ℕ) : Type 0 where
  pub within : IsWithin more f.cells
  pub grows : IsWithin set more
  pub only : (k : ℕ) → bit_at more k ≡ 1 → (l : ℕ) × (bit_at set l ≡ 1) × JoinedIn f l k
  pub all : (k l : ℕ) → bit_at set k ≡ 1 → bit_at f.cells l ≡ 1 → is_next f.columns k l ≡ true → bit_at more l ≡ 1

-- a set on its way from one cell to all that are joined with it
pub record IsGrowing (f : Field) (cell set : ℕ) : Type 0 where
  pub here : bit_at set cell ≡ 1
  pub within : IsWithin set f.cells
  pub joined : (k : ℕ) → bit_at set k ≡ 1 → JoinedIn f cell k

-- the cells that form pieces and are joined with none of the cells before this one
pub record AreLeft (n : Neighbours) (p : Grid) (end word : ℕ) : Type 0 where
  pub only : (k : ℕ) → bit_at word k ≡ 1 → is_piece_cell n p k ≡ true
  pub apart : (k : ℕ) → bit_at word k ≡ 1 → (l : ℕ) → l < end → are_joined n p l k ≡ true → ⊥
  pub all : (k : ℕ) → is_piece_cell n p k ≡ true → ((l : ℕ) → l < end → are_joined n p l k ≡ true → ⊥)
      → bit_at word k ≡ 1

-- the cell is the first of the set, and all of it is on the board
pub record IsSetFrom (p : Grid) (set first : ℕ) : Type 0 where
  pub here : bit_at set first ≡ 1
  pub least : (k : ℕ) → bit_at set k ≡ 1 → first ≤ k
  pub below : (k : ℕ) → bit_at set k ≡ 1 → k < length p.cells

-- there are cells in the set, and all of them are on the board
abbrev pub IsSet : Grid → ℕ → Type 0
IsSet p set = (first : ℕ) × IsSetFrom p set first

abbrev pub in_word : ℕ → ℕ → Bool
in_word set k = bit_at set k == 1

-- the joined set of the cell if it is the first of it, and else no cells
pub record IsTaken (n : Neighbours) (p : Grid) (cell set : ℕ) : Type 0 where
  pub only : (k : ℕ) → bit_at set k ≡ 1
      → (is_piece_cell n p cell ≡ true) × (is_least n p cell ≡ true) × (are_joined n p cell k ≡ true)
  pub all : (k : ℕ) → is_piece_cell n p cell ≡ true → is_least n p cell ≡ true → are_joined n p cell k ≡ true
      → bit_at set k ≡ 1

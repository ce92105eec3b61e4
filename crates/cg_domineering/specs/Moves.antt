-- Domineering: Left fills two empty cells, one above the other, and Right two empty cells side by side.
use Rattle.std.specs.Prelude.{ℕ, ◌+◌, ◌%◌, ◌==◌, ◌&&◌, Bool, nat_lt, if◌then◌else◌, List, [], ◌∷◌, codes, count_by, length, slice_index, slice_set, Some}
use Rattle.std.specs.List.{flat_map}
use Rattle.std.specs.Str.{bytes_eq}
use Rattle.cg_moves.specs.declared.player.Player.{Player}
use Rattle.cg_moves.specs.declared.player.Player.TheVariants.{Left, Right}
use Rattle.cg_moves.specs.Grid.{Grid, is_in_rows}
use Rattle.cg_moves.specs.Rising.{counted, rising}
use Rattle.cg_moves.specs.Rules.{GameRules}
use Rattle.cg_pieces.specs.Cells.{pieces_of}
use Rattle.cg_pieces.specs.Neighbours.{Neighbours, cell_game}

-- `.`
abbrev pub empty : ℕ
empty = 46

-- `#`
abbrev pub filled : ℕ
filled = 35

abbrev pub is_empty : List ℕ → ℕ → Bool
is_empty cells i = slice_index cells i == empty

-- the other cell of a player's domino whose first cell is i: for Left the cell below, for Right the next one in the row
abbrev pub other_cell : Player → Grid → ℕ → ℕ
other_cell Left p i = i + p.columns
other_cell Right p i = i + 1

-- there is such a cell
abbrev pub has_other : Player → Grid → ℕ → Bool
has_other Left p i = nat_lt (i + p.columns) (length p.cells)
has_other Right p i = nat_lt (i % p.columns + 1) p.columns

-- a domino of the player fits with its first cell at i
abbrev pub fits : Player → Grid → ℕ → Bool
fits player p i = has_other player p i && is_empty p.cells i && is_empty p.cells (other_cell player p i)

-- the cells after it is placed there
abbrev pub with_domino : Player → Grid → ℕ → List ℕ
with_domino player p i = slice_set (slice_set p.cells i filled) (other_cell player p i) filled

-- the moves with the first cell at i: one, where a domino fits
abbrev pub moves_at : Player → Grid → ℕ → List (List ℕ)
moves_at player p i = if fits player p i then with_domino player p i ∷ [] else []

-- the moves, in rising order of the bytes of the cells, each once
abbrev pub moves_of : Player → Grid → List (List ℕ)
moves_of player p = rising (flat_map (moves_at player p) (counted 0 (length p.cells)))

-- the player's domino lies so
abbrev pub lies : Player → Bool → Bool → Bool
lies Left below beside = below
lies Right below beside = beside

-- empty cells form pieces, in which the other cells are filled; a move fills two that are adjacent
abbrev pub dominoes : Neighbours
dominoes = record {
  symbols = codes ".#";
  blank = filled;
  forms_pieces = λ c. c == empty;
  allowed = λ player below beside x y. lies player below beside;
  first_after = λ player. filled;
  second_after = λ player. filled;
}

-- the boards have their cells in rows and columns, with the symbols `.` and `#`; each move lowers the number of empty cells
abbrev pub domineering : GameRules
domineering = record {
  has = λ p. is_in_rows p && bytes_eq p.symbols (codes ".#");
  moves = moves_of;
  measure = λ p. count_by (λ c. c == empty) p.cells;
  number = 1;
  cut = Some (pieces_of (cell_game dominoes));
}

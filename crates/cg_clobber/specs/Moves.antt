-- Clobber: Left moves an `x` onto a neighbouring `o`, which is removed, and Right an `o` onto a neighbouring `x`. Neighbours
-- share an edge.
use Rattle.std.specs.Prelude.{ℕ, ◌+◌, ◌-◌, ◌%◌, ◌==◌, ◌&&◌, ◌||◌, Bool, false, nat_lt, if◌then◌else◌, Option}
use Rattle.std.specs.Prelude.{Some, None, List, [], ◌∷◌, codes, count_by, length, slice_index, slice_set}
use Rattle.std.specs.List.{flat_map}
use Rattle.std.specs.Str.{bytes_eq}
use Rattle.cg_moves.specs.declared.player.Player.{Player}
use Rattle.cg_moves.specs.declared.player.Player.TheVariants.{Left, Right}
use Rattle.cg_moves.specs.Grid.{Grid, is_in_rows}
use Rattle.cg_moves.specs.Rising.{counted, rising}
use Rattle.cg_moves.specs.Rules.{GameRules}
use Rattle.cg_pieces.specs.Cells.{pieces_of}
use Rattle.cg_pieces.specs.Neighbours.{Neighbours, cell_game}
use Rattle.cg_clobber.specs.declared.way.Way.{Way}
use Rattle.cg_clobber.specs.declared.way.Way.TheVariants.{Up, Down, Back, Forth}

-- `.`
abbrev pub empty : ℕ
empty = 46

-- `x` is Left's stone, and `o` Right's
abbrev pub own : Player → ℕ
own Left = 120
own Right = 111

abbrev pub other : Player → ℕ
other Left = 111
other Right = 120

-- the next cell from i that way, if there is one
abbrev pub next_cell : Way → Grid → ℕ → Option ℕ
next_cell Up p i = if nat_lt i p.columns then None else Some (i - p.columns)
next_cell Down p i = if nat_lt (i + p.columns) (length p.cells) then Some (i + p.columns) else None
next_cell Back p i = if i % p.columns == 0 then None else Some (i - 1)
next_cell Forth p i = if nat_lt (i % p.columns + 1) p.columns then Some (i + 1) else None

abbrev pub has_stone : List ℕ → ℕ → ℕ → Bool
has_stone cells i stone = slice_index cells i == stone

-- the player's stone stands at i and the other player's at j
abbrev pub captures : Player → Grid → ℕ → ℕ → Bool
captures player p i j = has_stone p.cells i (own player) && has_stone p.cells j (other player)

-- the cells after the stone at i has moved onto j
abbrev pub with_capture : Player → Grid → ℕ → ℕ → List ℕ
with_capture player p i j = slice_set (slice_set p.cells i empty) j (own player)

-- the moves from i onto a cell, if there is one: one, where it captures
abbrev pub moves_onto : Player → Grid → ℕ → Option ℕ → List (List ℕ)
moves_onto player p i None = []
moves_onto player p i (Some j) = if captures player p i j then with_capture player p i j ∷ [] else []

abbrev pub moves_that_way : Player → Grid → ℕ → Way → List (List ℕ)
moves_that_way player p i way = moves_onto player p i (next_cell way p i)

-- whether it captures there
abbrev pub captures_onto : Player → Grid → ℕ → Option ℕ → Bool
captures_onto player p i None = false
captures_onto player p i (Some j) = captures player p i j

-- the player's stone stands at i and the other player's on the next cell that way
abbrev pub captures_that_way : Player → Grid → Way → ℕ → Bool
captures_that_way player p way i = captures_onto player p i (next_cell way p i)

abbrev pub ways : List Way
ways = Up ∷ Down ∷ Back ∷ Forth ∷ []

-- the moves from i
abbrev pub moves_at : Player → Grid → ℕ → List (List ℕ)
moves_at player p i = flat_map (moves_that_way player p i) ways

-- the moves, in rising order of the bytes of the cells, each once
abbrev pub moves_of : Player → Grid → List (List ℕ)
moves_of player p = rising (flat_map (moves_at player p) (counted 0 (length p.cells)))

abbrev pub is_stone : ℕ → Bool
is_stone c = (c == own Left) || (c == own Right)

-- stones form pieces, in which the other cells are empty; a move is one on two adjacent stones
abbrev pub stones : Neighbours
stones = record {
  symbols = codes ".xo";
  blank = empty;
  forms_pieces = is_stone;
  allowed = λ player below beside x y. (x == own player) && (y == other player);
  first_after = λ player. empty;
  second_after = own;
}

-- the boards have their cells in rows and columns, with the symbols `.`, `x` and `o`; each move lowers the number of stones
abbrev pub clobber : GameRules
clobber = record {
  has = λ p. is_in_rows p && bytes_eq p.symbols (codes ".xo");
  moves = moves_of;
  measure = λ p. count_by is_stone p.cells;
  number = 2;
  cut = Some (pieces_of (cell_game stones));
}

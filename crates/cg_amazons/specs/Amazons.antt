-- Amazons: a queen moves and shoots.
use Rattle.std.specs.Prelude.{ℕ, zero, suc, ◌+◌, ◌-◌, ◌%◌, ◌≡◌, ◌<◌, ◌==◌, Bool, true, nat_lt, cond, List, [], ◌∷◌, ◌++◌}
use Rattle.std.specs.Prelude.{map, count_by, length, slice_index, slice_set, Option, Some, None, option_and_then}
use Rattle.std.specs.List.{flat_map}
use Rattle.std.specs.Option.{option_map_or}
use Rattle.std.specs.Str.{bytes_eq}
use Rattle.cg_moves.specs.declared.player.Player.{Player}
use Rattle.cg_moves.specs.declared.player.Player.TheVariants.{Left, Right}
use Rattle.cg_moves.specs.Grid.{Grid}
use Rattle.cg_moves.specs.Rules.{GameRules}
use Rattle.cg_moves.specs.Rising.{rising}
use Rattle.cg_amazons.specs.declared.way.Way.{Way}
use Rattle.cg_amazons.specs.declared.way.Way.TheVariants.{UpBack, Up, UpForth, Back, Forth, DownBack, Down, DownForth}

abbrev pub empty : ℕ
empty = 46

abbrev pub blocked : ℕ
blocked = 35

-- Left's queens are x, and Right's are o
abbrev pub queen : Player → ℕ
queen Left = 120
queen Right = 111

-- ---- cells in rows of so many columns, counted row by row

-- the cell one row up, down, one column back or forth, if there is one

abbrev pub up : ℕ → ℕ → Option ℕ
up columns i = cond (nat_lt i columns) None (Some (i - columns))

abbrev pub down : ℕ → ℕ → ℕ → Option ℕ
down columns size i = cond (nat_lt (i + columns) size) (Some (i + columns)) None

abbrev pub back : ℕ → ℕ → Option ℕ
back columns i = cond (i % columns == 0) None (Some (i - 1))

abbrev pub forth : ℕ → ℕ → Option ℕ
forth columns i = cond (nat_lt (i % columns + 1) columns) (Some (i + 1)) None

-- the next cell in one of the eight directions
abbrev pub step : ℕ → ℕ → Way → ℕ → Option ℕ
step columns size UpBack i = option_and_then (back columns) (up columns i)
step columns size Up i = up columns i
step columns size UpForth i = option_and_then (forth columns) (up columns i)
step columns size Back i = back columns i
step columns size Forth i = forth columns i
step columns size DownBack i = option_and_then (back columns) (down columns size i)
step columns size Down i = down columns size i
step columns size DownForth i = option_and_then (forth columns) (down columns size i)

abbrev pub is_empty : List ℕ → ℕ → Bool
is_empty cells i = slice_index cells i == empty

-- so many steps that way, each onto an empty cell
abbrev pub Along : ℕ → List ℕ → Way → ℕ → ℕ → ℕ → Type 0
Along columns cells way zero from to = from ≡ to
Along columns cells way (suc steps) from to = (next : ℕ) × (step columns (length cells) way from ≡ Some next) × (is_empty cells next ≡ true) × Along columns
    cells way steps next to

-- at least one cell along empty cells in one of the eight directions
pub record Reaches (columns : ℕ) (cells : List ℕ) (from to : ℕ) : Type 0 where
  pub way : Way
  pub steps : ℕ
  pub along : Along columns cells way (suc steps) from to

-- the cells after the queen's move, in which the cell that it left is empty
abbrev pub with_queen : List ℕ → ℕ → ℕ → ℕ → List ℕ
with_queen cells from to q = slice_set (slice_set cells from empty) to q

-- a queen of the player moves, and shoots an arrow from its new cell
pub record IsAmazonsMove (columns : ℕ) (player : Player) (cells after : List ℕ) : Type 0 where
  pub from : ℕ
  pub to : ℕ
  pub target : ℕ
  pub within : from < length cells
  pub own : slice_index cells from ≡ queen player
  pub moved : Reaches columns cells from to
  pub shot : Reaches columns (with_queen cells from to (queen player)) to target
  pub written : after ≡ slice_set (with_queen cells from to (queen player)) target blocked

-- ---- the moves in order

-- the next cell that way, if it is empty
abbrev pub open_step : ℕ → List ℕ → Way → ℕ → Option ℕ
open_step columns cells way from = option_and_then (λ next. cond (is_empty cells next) (Some next) None) (step columns (length cells) way from)

-- the cells that way as long as they are empty, so many at most
abbrev pub line : ℕ → List ℕ → Way → ℕ → ℕ → List ℕ
line columns cells way zero from = []
line columns cells way (suc most) from = option_map_or (λ next. next ∷ line columns cells way most next) (open_step columns cells way from) []

abbrev pub ways : List Way
ways = UpBack ∷ Up ∷ UpForth ∷ Back ∷ Forth ∷ DownBack ∷ Down ∷ DownForth ∷ []

-- what the arrows make of the cells
abbrev pub shots_that_way : ℕ → List ℕ → ℕ → Way → List (List ℕ)
shots_that_way columns cells from way = map (λ target. slice_set cells target blocked) (line columns cells way (length cells) from)

abbrev pub shots : ℕ → List ℕ → ℕ → List (List ℕ)
shots columns cells from = flat_map (shots_that_way columns cells from) ways

-- what the queen on this cell makes of them
abbrev pub moves_that_way : ℕ → ℕ → List ℕ → ℕ → Way → List (List ℕ)
moves_that_way columns q cells from way = flat_map (λ to. shots columns (with_queen cells from to q) to) (line columns cells way (length cells) from)

abbrev pub moves_from : ℕ → ℕ → List ℕ → ℕ → List (List ℕ)
moves_from columns q cells from = cond (slice_index cells from == q) (flat_map (moves_that_way columns q cells from) ways) []

-- what the queens on the cells below this one make of them
abbrev pub moves_below : ℕ → ℕ → List ℕ → ℕ → List (List ℕ)
moves_below columns q cells zero = []
moves_below columns q cells (suc i) = moves_below columns q cells i ++ moves_from columns q cells i

abbrev pub amazons_moves : Player → Grid → List (List ℕ)
amazons_moves player p = rising (moves_below p.columns (queen player) p.cells (length p.cells))

abbrev pub empty_cells : List ℕ → ℕ
empty_cells cells = count_by (λ c. c == empty) cells

-- the boards have the symbols `.`, `x`, `o` and `#`; each move lowers the number of empty cells
abbrev pub amazons : GameRules
amazons = record {
  has = λ p. bytes_eq p.symbols (empty ∷ queen Left ∷ queen Right ∷ blocked ∷ []);
  moves = amazons_moves;
  measure = λ p. empty_cells p.cells;
  number = 3;
  cut = None;
}

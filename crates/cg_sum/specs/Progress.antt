-- How far a sum or a negative has come.
use Rattle.std.specs.Prelude.{◌≡◌, ℕ, ◌+◌, ◌*◌, ◌/◌, ◌%◌, ◌<◌, ◌≤◌, List, [], ◌∷◌, Result, IfOk, OnOk, length, map, slice_index}
use Rattle.cg_arena.specs.Arena.{game_of}
use Rattle.cg_canon.specs.Arena.{Begins, IsAt}
use Rattle.cg_canon.specs.Items.{Item}
use Rattle.cg_canon.specs.Made.{ItemsMade}
use Rattle.cg_canon.specs.SumItems.{sum_item}
use Rattle.cg_canon.specs.Walk.{IsWalk}
use Rattle.cg_canon.specs.declared.fault.ValueFault.{ValueFault}
use Rattle.cg_canon.specs.declared.rest.WorkRest.{WorkRest}
use Rattle.cg_cells.specs.Store.{State}
use Rattle.cg_form.specs.Game.{Game}
use Rattle.cg_form.specs.Sum.{negative, sum}
use Rattle.cg_nodes.specs.Can.{can}
use Rattle.cg_nodes.specs.Meant.{Meant}
use Rattle.cg_sum.specs.declared.terms.Terms.{Terms}

-- the form of the sum at a place of the table of all sums of the first games and the second, row by row
abbrev pub sum_at_place : List Game × List Game → ℕ → Game
sum_at_place games m = can (sum (game_of games.0 (m / length games.1)) (game_of games.1 (m % length games.1)))

-- the form of the negative of the game at the place
abbrev pub negative_at_place : List Game → ℕ → Game
negative_at_place games m = can (negative (game_of games m))

-- the table has so many forms, by their indexes in the arena
pub record HoldsForms (gs : List Game) (form : ℕ → Game) (n : ℕ) (table : List ℕ) : Type 0 where
  pub count : length table ≡ n
  pub each : (m : ℕ) → m < n → IsAt gs (slice_index table m) (form m)

-- the indexes that the table has for the places, each of which stands so many times the step behind the first
abbrev pub indexes : List ℕ → ℕ → ℕ → List ℕ → List ℕ
indexes table step first places = map (λ p. slice_index table (p * step + first)) places

-- the row and the column are those of two positions of the walks, which have these games
pub record ArePlaced (gs : List Game) (terms : Terms) (games : List Game × List Game) (row column : ℕ) : Type 0 where
  pub firsts : IsWalk gs terms.firsts games.0
  pub seconds : IsWalk gs terms.seconds games.1
  pub within_rows : row < length games.0
  pub within_columns : column < length games.1

-- and the sums before theirs were made
pub record IsReady (gs : List Game) (terms : Terms) (games : List Game × List Game) (row column : ℕ) (table : List ℕ) : Type 0 where
  pub placed : ArePlaced gs terms games row column
  pub holds : HoldsForms gs (sum_at_place games) (row * length games.1 + column) table

-- the item was made, and the form stands at the index; or it was refused. At least so much is to spare
pub record FormMade {R : Type 0} (s t : State Meant (WorkRest R)) (gs hs : List Game) (least : ℕ) (item : Item) (form : Game)
    (result : Result ℕ ValueFault) : Type 0 where
  pub at : IfOk result (λ i. IsAt hs i form)
  pub begins : Begins gs hs
  pub made : ItemsMade s t (item ∷ []) result
  pub spare : least ≤ t.spare

-- the item of the sum of the two games was made, or it was refused
abbrev pub SumMade : {R : Type 0} → State Meant (WorkRest R) → State Meant (WorkRest R) → List Game → List Game → ℕ → Game → Game
    → Result ℕ ValueFault → Type 0
SumMade {R} s t gs hs least g h result = FormMade s t gs hs least (sum_item g h) (can (sum g h)) result

-- the items were made, and the table has so many forms; or the first that isn't made was refused
pub record FormsMade {R T : Type 0} (s t : State Meant (WorkRest R)) (gs hs : List Game) (least : ℕ) (items : List Item)
    (form : ℕ → Game) (count : ℕ) (table : List ℕ) (result : Result T ValueFault) : Type 0 where
  pub begins : Begins gs hs
  pub made : ItemsMade s t items result
  pub spare : least ≤ t.spare
  pub holds : OnOk result (HoldsForms hs form count table)

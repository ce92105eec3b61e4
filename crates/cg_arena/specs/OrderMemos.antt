-- What a table of answers has.
use Rattle.std.specs.Prelude.{◌≡◌, ℕ, Option, Some, List}
use Rattle.std.specs.List.{slice_get}
use Rattle.cg_form.specs.Game.{Game}
use Rattle.cg_form.specs.Order.{le}
use Rattle.cg_arena.specs.Arena.{IsIndex, game_of}
use Rattle.cg_arena.specs.declared.order_memo.Answer.{Answer}
use Rattle.cg_arena.specs.declared.order_memo.OrderMemo.{OrderMemo}

-- some place has the answer
pub record IsPlaced (places : List (Option Answer)) (answer : Answer) : Type 0 where
  pub place : ℕ
  pub there : slice_get places place ≡ Some (Some answer)

abbrev pub IsKept : OrderMemo → Answer → Type 0
IsKept r answer = IsPlaced r.places.items answer

-- the answer is the order of its two games
pub record IsRight (gs : List Game) (x : Answer) : Type 0 where
  pub low : IsIndex gs x.low
  pub high : IsIndex gs x.high
  pub order : x.at_most ≡ le (game_of gs x.low) (game_of gs x.high)

-- each answer of the table is right
abbrev pub AreRight : List Game → OrderMemo → Type 0
AreRight gs r = (x : Answer) → IsKept r x → IsRight gs x

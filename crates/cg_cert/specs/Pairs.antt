-- Pairs of games (G, H), as Left and Right play G - H: a move of Right's, and an answer of Left's.
use Rattle.std.specs.Prelude.{ℕ, ◌+◌, List, ◌++◌, map, Bool, true, false, ◌&&◌, Option, option_map, slice_get}
use Rattle.cg_form.specs.Game.{Game, lefts, number, options, rights}
use Rattle.cg_form.specs.Order.{Le}
use Rattle.cg_form.specs.Size.{size}
use Rattle.cg_cert.specs.Certificate.{Answer, in_first, in_second}

pub record Pair : Type 0 where
  pub first : Game
  pub second : Game

abbrev pub pair : Game → Game → Pair
pair g h = record { first = g; second = h }

abbrev pub is_number : Game → Bool
is_number (number x) = true
is_number (options ls rs) = false

abbrev pub both_numbers : Pair → Bool
both_numbers m = is_number m.first && is_number m.second

-- the first game is at least the second
abbrev pub AtLeast : Pair → Type 0
AtLeast m = Le m.second m.first

-- Right moves to a Right option of the first game, or in the second to a Left option of it
abbrev pub moves : Pair → List Pair
moves m = map (λ b. pair b m.second) (rights m.first) ++ map (λ a. pair m.first a) (lefts m.second)

-- Left answers with a Left option of the first game, or in the second with a Right option of it
abbrev pub led : Answer → Pair → Option Pair
led (in_first i) m = option_map (λ a. pair a m.second) (slice_get (lefts m.first) i)
led (in_second i) m = option_map (λ b. pair m.first b) (slice_get (rights m.second) i)

abbrev pub pair_size : Pair → ℕ
pair_size m = size m.first + size m.second

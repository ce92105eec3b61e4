-- Stops: the numbers that alternating play reaches when each player plays for the best, with Left or Right to begin.
-- Siegel, Combinatorial Game Theory (2013), II.3: Left and Right stops. The law function `l6` states their rule as it
-- stands here; the bound below only makes the recursion end.
use Rattle.std.specs.Prelude.{ℕ, zero, suc, List, map, pos}
use mathlib.Core.Logic.{inl, inr}
use Rattle.cg_dyadic.specs.Number.{Number, number_le, whole}
use Rattle.cg_form.specs.Game.{Game, lefts, rights}
use Rattle.cg_form.specs.Greatest.{greatest_by}
use Rattle.cg_form.specs.Simple.{Decided, Decides}
use Rattle.cg_form.specs.Size.{size}

pub record Stops : Type 0 where
  pub left : Number
  pub right : Number

abbrev pub greatest_number : List Number → Number
greatest_number xs = greatest_by number_le (whole (pos 0)) xs

abbrev pub least_number : List Number → Number
least_number xs = greatest_by (λ x y. number_le y x) (whole (pos 0)) xs

-- both stops are the number that the game equals, or else the given ones
abbrev pub stops_by : (g : Game) → Decided g → Stops → Stops
stops_by g (inl w) s = record { left = w.0; right = w.0 }
stops_by g (inr n) s = s

-- where the game equals no number, the Left stop is the greatest Right stop of a Left option, and the Right stop is the
-- least Left stop of a Right option
unfoldable pub stops_within : Decides → ℕ → Game → Stops
stops_within d zero g = record { left = whole (pos 0); right = whole (pos 0) }
stops_within d (suc n) g = stops_by g (d g) (record {
  left = greatest_number (map (λ a. (stops_within d n a).right) (lefts g));
  right = least_number (map (λ b. (stops_within d n b).left) (rights g));
})

unfoldable pub stops : Decides → Game → Stops
stops d g = stops_within d (suc (size g)) g

-- Numbers that fit between the options of a game, and games that equal a number.
-- Siegel, Combinatorial Game Theory (2013), II.3: the Simplicity Theorem.
use Rattle.std.specs.Prelude.{◌≡◌, ◌⊎◌}
use Rattle.cg_dyadic.specs.Number.{Number}
use Rattle.cg_dyadic.specs.Simplest.{Simpler}
use Rattle.cg_form.specs.Game.{Among, Game, lefts, number, rights}
use Rattle.cg_form.specs.Order.{Equal, Le}

-- x fits strictly: no Left option of g is at least x, and no Right option is at most x
pub record FitsIn (x : Number) (g : Game) : Type 0 where
  pub above : (a : Game) → Among a (lefts g) → ¬ Le (number x) a
  pub below : (b : Game) → Among b (rights g) → ¬ Le b (number x)

-- g equals the simplest number that fits
pub record SimplestValue (g : Game) : Type 0 where
  pub value : Number
  pub fits : FitsIn value g
  pub simplest : (y : Number) → FitsIn y g → (value ≡ y) ⊎ Simpler value y
  pub equal : Equal (number value) g

-- g equals no number
abbrev pub NoNumber : Game → Type 0
NoNumber g = (x : Number) → ¬ Equal (number x) g

-- the game equals a number, or none
abbrev pub Decided : Game → Type 0
Decided g = ((x : Number) × Equal (number x) g) ⊎ NoNumber g

-- A decision tells of each game which number it equals, or that it equals none. There is one (`decided` in the law function
-- `l6`), and stops and walls are the same by each (`unique` in `l6` and `l7`).
abbrev pub Decides : Type 0
Decides = (g : Game) → Decided g

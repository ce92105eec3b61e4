-- What numbers tell of two cuts, and of two games.
use Rattle.std.specs.Prelude.{◌≡◌, Bool, true, false, IsTrue}
use Rattle.cg_dyadic.specs.Cut.{in_cut}
use Rattle.cg_dyadic.specs.declared.cut.Cut.{Cut}
use Rattle.cg_dyadic.specs.Number.{Number}
use Rattle.cg_form.specs.Game.{Game, number}
use Rattle.cg_form.specs.Side.{AtMost}

-- some number of the first cut isn't in the second
pub record GoesPast (s : Bool) (a b : Cut) : Type 0 where
  pub x : Number
  pub inside : IsTrue (in_cut s a x)
  pub outside : in_cut s b x ≡ false

-- some number is in both: in that of numbers from some one on, and in that of numbers up to some one
pub record Meet (high low : Cut) : Type 0 where
  pub x : Number
  pub above : IsTrue (in_cut false high x)
  pub below : IsTrue (in_cut true low x)

-- each number that is no better for the player than the first game is no better than the second
abbrev pub NoFurther : Bool → Game → Game → Type 0
NoFurther s g h = (x : Number) → AtMost s (number x) g → AtMost s (number x) h

-- What is known of a game once its canonical form is found.
use Rattle.std.specs.Prelude.{List}
use Rattle.cg_dyadic.specs.declared.cut.Cut.{Cut}
use Rattle.cg_form.specs.Canonical.{Canonical, IsCanonicalForm}
use Rattle.cg_form.specs.Cut.{AnyNumber, CutIs}
use Rattle.cg_form.specs.Game.{Among, Game}
use Rattle.cg_form.specs.Order.{Equal}
use Rattle.cg_form.specs.Range.{HasOutside}
use Rattle.cg_form.specs.Side.{AtMost, Player}

-- k is the canonical form of g, whose positions equal no numbers out of range, and the cut is g's for the player
pub record KnownOf (s : Player) (g k : Game) (c : Cut) : Type 0 where
  pub form : IsCanonicalForm g k
  pub cut : CutIs AnyNumber s c g
  pub inside : ¬ HasOutside g

-- canonical games that equal those of the list
pub record CopiesOf (gs cs : List Game) : Type 0 where
  pub canonical : (c : Game) → Among c cs → Canonical c
  pub there : (a : Game) → Among a gs → (c : Game) × Among c cs × Equal c a
  pub back : (c : Game) → Among c cs → (a : Game) × Among a gs × Equal c a

-- each game of the list is canonical
pub record EachCanonical (gs : List Game) : Type 0 where
  pub each : (c : Game) → Among c gs → Canonical c

-- no game of the list is as good for the player as g
pub record EachLess (s : Player) (g : Game) (gs : List Game) : Type 0 where
  pub each : (c : Game) → Among c gs → ¬ AtMost s g c

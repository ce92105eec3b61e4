-- Canonical forms.
-- Siegel, Combinatorial Game Theory (2013), II.2: dominated and reversible options, and canonical forms.
use Rattle.std.specs.Prelude.{◌≡◌}
use Rattle.cg_dyadic.specs.Number.{Number}
use Rattle.cg_form.specs.Game.{Among, Game, Games, lefts, more, none, number, options, rights}
use Rattle.cg_form.specs.Order.{Equal, Le}
use Rattle.cg_form.specs.Simple.{NoNumber}
use Rattle.cg_form.specs.Structure.{Rises}

-- the Left option a of g is at most another Left option
pub record LeftDominated (g a : Game) : Type 0 where
  pub by : Game
  pub option : Among by (lefts g)
  pub other : ¬ (a ≡ by)
  pub worse : Le a by

-- the Right option a of g is at least another Right option
pub record RightDominated (g a : Game) : Type 0 where
  pub by : Game
  pub option : Among by (rights g)
  pub other : ¬ (a ≡ by)
  pub worse : Le by a

-- the Left option a of g has a Right option that is at most g
pub record LeftReversible (g a : Game) : Type 0 where
  pub through : Game
  pub answer : Among through (rights a)
  pub back : Le through g

-- the Right option a of g has a Left option that is at least g
pub record RightReversible (g a : Game) : Type 0 where
  pub through : Game
  pub answer : Among through (lefts a)
  pub back : Le g through

-- no option is dominated or reversible, both lists rise strictly, and the game equals no number
pub record Reduced (g : Game) : Type 0 where
  pub left_undominated : (a : Game) → Among a (lefts g) → ¬ LeftDominated g a
  pub right_undominated : (a : Game) → Among a (rights g) → ¬ RightDominated g a
  pub left_irreversible : (a : Game) → Among a (lefts g) → ¬ LeftReversible g a
  pub right_irreversible : (a : Game) → Among a (rights g) → ¬ RightReversible g a
  pub lefts_rise : Rises (lefts g)
  pub rights_rise : Rises (rights g)
  pub no_number : NoNumber g

-- each position of the game is a number or reduced
abbrev mutual
  pub Canonical : Game → Type 0
  Canonical (number x) = Unit {0}
  Canonical (options ls rs) = Reduced (options ls rs) × AllCanonical ls × AllCanonical rs

  pub AllCanonical : Games → Type 0
  AllCanonical none = Unit {0}
  AllCanonical (more g gs) = Canonical g × AllCanonical gs

-- k is a canonical form of g
pub record IsCanonicalForm (g k : Game) : Type 0 where
  pub canonical : Canonical k
  pub equal : Equal k g

-- another Left option c of g than a is at least x, and so at least each Left option of x
pub record LeftAbove (g a : Game) (x : Number) : Type 0 where
  pub by : Game
  pub option : Among by (lefts g)
  pub other : ¬ (a ≡ by)
  pub above : Le (number x) by
  pub dominates : (d : Game) → Among d (lefts (number x)) → Le d by

-- another Right option c of g than a is at most x, and so at most each Right option of x
pub record RightBelow (g a : Game) (x : Number) : Type 0 where
  pub by : Game
  pub option : Among by (rights g)
  pub other : ¬ (a ≡ by)
  pub below : Le by (number x)
  pub dominates : (d : Game) → Among d (rights (number x)) → Le by d

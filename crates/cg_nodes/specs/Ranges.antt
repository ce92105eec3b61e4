-- Games each of whose numbers is in range.
use Rattle.cg_dyadic.specs.Number.{InRange}
use Rattle.cg_form.specs.Game.{Game, Games, more, none, number, options}

-- each number in the tree of the game is in range
abbrev mutual
  pub AllInRange : Game → Type 0
  AllInRange (number x) = InRange x
  AllInRange (options ls rs) = AreInRange ls × AreInRange rs

  pub AreInRange : Games → Type 0
  AreInRange none = Unit {0}
  AreInRange (more g gs) = AllInRange g × AreInRange gs

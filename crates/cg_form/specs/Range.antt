-- Games that are a number in range, and games of which some position equals a number out of range.
use Rattle.std.specs.Prelude.{◌⊎◌}
use Rattle.cg_dyadic.specs.Number.{InRange, Number}
use Rattle.cg_form.specs.Game.{Game, Games, more, none, number, options}
use Rattle.cg_form.specs.Order.{Equal}

-- a number is in range
abbrev pub IsInRange : Game → Type 0
IsInRange (number x) = InRange x
IsInRange (options ls rs) = Unit {0}

pub record EqualsOutside (g : Game) : Type 0 where
  pub value : Number
  pub outside : ¬ InRange value
  pub equal : Equal (number value) g

-- a number has no positions but itself; those of another game are the game and the positions of its options
abbrev mutual
  pub HasOutside : Game → Type 0
  HasOutside (number x) = EqualsOutside (number x)
  HasOutside (options ls rs) = EqualsOutside (options ls rs) ⊎ AnyOutside ls ⊎ AnyOutside rs

  pub AnyOutside : Games → Type 0
  AnyOutside none = ⊥
  AnyOutside (more g gs) = HasOutside g ⊎ AnyOutside gs

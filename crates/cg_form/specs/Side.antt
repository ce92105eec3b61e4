-- A game as a player sees it: one text for Left and Right.
use Rattle.std.specs.Prelude.{Bool, true, false, if◌then◌else◌, IsTrue, List}
pub use Rattle.cg_dyadic.specs.Cut.{Player}
use Rattle.cg_form.specs.Game.{Game, lefts, rights}
use Rattle.cg_form.specs.Order.{le}

-- the player's own options, and those of the other player
abbrev pub near : Player → Game → List Game
near true g = lefts g
near false g = rights g

abbrev pub far : Player → Game → List Game
far true g = rights g
far false g = lefts g

-- a is no better for the player than b
abbrev pub at_most : Player → Game → Game → Bool
at_most true a b = le a b
at_most false a b = le b a

abbrev pub AtMost : Player → Game → Game → Type 0
AtMost s a b = IsTrue (at_most s a b)

-- the player's own of two lists
abbrev pub chosen : Player → List Game → List Game → List Game
chosen s ls rs = if s then ls else rs

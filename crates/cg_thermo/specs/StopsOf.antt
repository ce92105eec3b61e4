-- The stops of a game, as code gives them.
use Rattle.std.specs.Prelude.{◌≡◌}
use Rattle.cg_form.specs.Game.{Game}
use Rattle.cg_form.specs.Simple.{Decides}
use Rattle.cg_form.specs.Stops as form
use Rattle.cg_thermo.specs.declared.ending.Stops.{Stops}

-- the stops are those of the game
pub record StopsAre (g : Game) (c : Stops) : Type 0 where
  pub left : (d : Decides) → c.left ≡ (form.stops d g).left
  pub right : (d : Decides) → c.right ≡ (form.stops d g).right

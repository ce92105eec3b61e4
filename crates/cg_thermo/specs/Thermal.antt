-- Where masts begin, and means and temperatures that need many binary places.
use Rattle.std.specs.Prelude.{◌≡◌, ◌⊎◌, ℕ, ◌<◌}
use Rattle.cg_dyadic.specs.Number.{Number, exp_of}
use Rattle.cg_form.specs.Game.{Among, Game, number}
use Rattle.cg_form.specs.Order.{Equal}
use Rattle.cg_form.specs.Simple.{Decides, NoNumber}
use Rattle.cg_form.specs.Walls.{IsThermal, TemperatureIs}
use Rattle.cg_form.specs.Positions.{positions_of}

-- the walls from t = end on are the mast, in units of 1 / 2 ^ s: from 0 for a number, and else from the temperature
pub record MastFrom (d : Decides) (s : ℕ) (g : Game) (end : ℕ) : Type 0 where
  pub number : (x : Number) → Equal (number x) g → end ≡ 0
  pub other : NoNumber g → TemperatureIs d s g end

-- the mean or the temperature of some position of g needs more than so many binary places
pub record NeedsMore (places : ℕ) (g : Game) : Type 0 where
  pub position : Game
  pub among : Among position (positions_of g)
  pub mean : Number
  pub temp : Number
  pub thermal : IsThermal position mean temp
  pub more : (places < exp_of mean) ⊎ (places < exp_of temp)

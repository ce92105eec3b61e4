-- What is kept of the walls of a game, in units of 1 / 2 ^ 60.
use Rattle.std.specs.Prelude.{◌≡◌, ℕ, ◌<◌, neg_ℤ}
use Rattle.cg_dyadic.specs.Wide.{places}
use Rattle.cg_form.specs.Game.{Game}
use Rattle.cg_form.specs.Simple.{Decides}
use Rattle.cg_form.specs.Walls.{walls}
use Rattle.cg_walls.specs.declared.TheConstants.{END}
use Rattle.cg_walls.specs.Rises.{IsWall, value_at}
use Rattle.cg_thermo.specs.Thermal.{MastFrom}
use Rattle.cg_thermo.specs.declared.wall_pair.WallPair.{WallPair}

-- the negative of the left wall, and the right wall, which both rise, and where the mast begins
pub record Draws (g : Game) (c : WallPair) : Type 0 where
  pub left_wall : IsWall c.left
  pub right_wall : IsWall c.right
  pub left : (d : Decides) (t : ℕ) → value_at c.left t ≡ neg_ℤ (walls d places t g).left
  pub right : (d : Decides) (t : ℕ) → value_at c.right t ≡ (walls d places t g).right
  pub mast : (d : Decides) → MastFrom d places g c.end
  pub soon : c.end < END

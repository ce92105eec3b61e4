-- What a thermograph says of a game.
use Rattle.std.specs.Prelude.{◌≡◌, ℕ, ◌≤◌, pos}
use Rattle.cg_form.specs.Game.{Game}
use Rattle.cg_form.specs.Heights.{height}
use Rattle.cg_form.specs.Simple.{Decides}
use Rattle.cg_form.specs.Walls as form
use Rattle.cg_form.specs.Walls.{IsThermal}
use Rattle.cg_walls.specs.Lines.{OnLine}
use Rattle.cg_thermo.specs.declared.thermo.Walls.{Walls}
use Rattle.cg_thermo.specs.Pictures.{left_corners, right_corners}
use Rattle.cg_thermo.specs.Thermal.{MastFrom}
use Rattle.cg_thermo.specs.WallLine.{marks_at}

-- the mean, the temperature, and at each scale of at least the height the corners of the walls
pub record IsThermograph (g : Game) (w : Walls) : Type 0 where
  pub thermal : IsThermal g w.mean w.temp
  pub left : (d : Decides) (s end : ℕ) → height g ≤ s → MastFrom d s g end → w.left ≡ left_corners d s g end
  pub right : (d : Decides) (s end : ℕ) → height g ≤ s → MastFrom d s g end → w.right ≡ right_corners d s g end

-- the lines of the corners are the walls of g, at every temperature: at t units of each scale of at least the height
pub record DrawsWalls (g : Game) (w : Walls) : Type 0 where
  pub left : (d : Decides) (s t : ℕ) → height g ≤ s → OnLine (marks_at s w.left) (pos t) (form.walls d s t g).left
  pub right : (d : Decides) (s t : ℕ) → height g ≤ s → OnLine (marks_at s w.right) (pos t) (form.walls d s t g).right

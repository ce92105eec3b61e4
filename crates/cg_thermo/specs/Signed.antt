-- Corners at points in units of 1 / 2 ^ 60, and what is drawn of a pair of walls.
use Rattle.std.specs.Prelude.{◌≡◌, Bool, true, false, if◌then◌else◌, map, pos, neg_ℤ}
use Rattle.cg_dyadic.specs.Number.{ratio}
use Rattle.cg_dyadic.specs.Wide.{places}
use Rattle.cg_walls.specs.Corners.{corners}
use Rattle.cg_walls.specs.Rises.{value_at}
use Rattle.cg_walls.specs.declared.bends.Point.{Point}
use Rattle.cg_thermo.specs.declared.wall_pair.WallPair.{WallPair}
use Rattle.cg_thermo.specs.declared.corners.Corner.{Corner}
use Rattle.cg_thermo.specs.declared.thermo.Walls.{Walls}

-- the corner at a point, with the negative of its value or with this
abbrev pub corner_at : Bool → Point → Corner
corner_at negated p = record {
  value = ratio (if negated then neg_ℤ p.value else p.value) places;
  at = ratio (pos p.at) places;
}

-- the mean and the corners of a pair of walls
pub record Pictured (c : WallPair) (w : Walls) : Type 0 where
  pub mean : w.mean ≡ ratio (value_at c.right c.end) places
  pub left : w.left ≡ map (corner_at true) (corners (value_at c.left) c.end)
  pub right : w.right ≡ map (corner_at false) (corners (value_at c.right) c.end)

-- The corners of the walls of a game as numbers.
use Rattle.std.specs.Prelude.{ℕ, pos, List, map}
use Rattle.cg_dyadic.specs.Number.{ratio}
use Rattle.cg_form.specs.Game.{Game}
use Rattle.cg_form.specs.Simple.{Decides}
use Rattle.cg_form.specs.Walls.{walls}
use Rattle.cg_walls.specs.Corners.{corners}
use Rattle.cg_walls.specs.declared.bends.Point.{Point}
use Rattle.cg_thermo.specs.declared.corners.Corner.{Corner}

-- a point in units of 1 / 2 ^ s
abbrev pub spot : ℕ → Point → Corner
spot s p = record { value = ratio p.value s; at = ratio (pos p.at) s }

-- the corners of the walls up to the end, at the scale s
unfoldable pub left_corners : Decides → ℕ → Game → ℕ → List Corner
left_corners d s g end = map (spot s) (corners (λ t. (walls d s t g).left) end)

unfoldable pub right_corners : Decides → ℕ → Game → ℕ → List Corner
right_corners d s g end = map (spot s) (corners (λ t. (walls d s t g).right) end)

-- The greatest of the walls of some games.
use Rattle.std.specs.Prelude.{◌≡◌, ℕ, Bool, List, [], if◌then◌else◌, map, ℤ, neg_ℤ}
use Rattle.cg_dyadic.specs.Wide.{places}
use Rattle.cg_form.specs.Game.{Game}
use Rattle.cg_form.specs.Simple.{Decides}
use Rattle.cg_form.specs.Walls.{greatest, walls}
use Rattle.cg_walls.specs.declared.rise.Rise.{Rise}
use Rattle.cg_walls.specs.Rises.{value_at}

-- the value of the right wall at t, or the negative of that of the left wall
abbrev pub side_value : Decides → Bool → ℕ → Game → ℤ
side_value d right t g = if right then (walls d places t g).right else neg_ℤ (walls d places t g).left

-- at each time r is the greatest of these of the games, where there is one
abbrev pub IsHighestWall : Bool → List Game → Rise → Type 0
IsHighestWall right gs r = ¬ (gs ≡ []) → (d : Decides) (t : ℕ) → value_at r t ≡ greatest (map (side_value d right t) gs)

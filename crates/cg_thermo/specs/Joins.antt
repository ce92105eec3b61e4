-- Scaffolds that meet, and scaffolds that pass each other between two whole units.
use Rattle.std.specs.Prelude.{◌≡◌, ℕ, ◌+◌, ◌<◌, pos, negsuc, ◌<ℤ◌}
use Rattle.cg_walls.specs.declared.TheConstants.{END}
use Rattle.cg_walls.specs.declared.rise.Rise.{Rise}
use Rattle.cg_walls.specs.Rises.{IsWall, gap, turned, value_at}
use Rattle.cg_thermo.specs.declared.wall_pair.WallPair.{WallPair}

-- the scaffolds, t less each of the two and its negative, meet first at e
pub record Meets (p q : Rise) (e : ℕ) : Type 0 where
  pub met : gap p q e ≡ pos 0
  pub first : (u : ℕ) → u < e → pos 0 <ℤ gap p q u

pub record Joins (p q : Rise) (c : WallPair) : Type 0 where
  pub meets : Meets p q c.end
  pub left_wall : IsWall c.left
  pub right_wall : IsWall c.right
  pub left : (t : ℕ) → value_at c.left t ≡ turned p c.end t
  pub right : (t : ℕ) → value_at c.right t ≡ turned q c.end t
  pub soon : c.end < END

pub record Jumps (p q : Rise) : Type 0 where
  pub at : ℕ
  pub before : gap p q at ≡ pos 1
  pub after : gap p q (at + 1) ≡ negsuc 0

-- Between which keys those of the games of a list lie.
use Rattle.std.specs.Prelude.{◌<◌, ◌^◌, List, ◌≤ℤ◌, unsigned_abs}
use Rattle.cg_form.specs.Game.{Among, Game}
use Rattle.cg_arena.specs.declared.keys.Keys.{Keys}
use Rattle.cg_arena.specs.declared.reach.Bounds.{Bounds}
use Rattle.cg_arena.specs.Keys.{HasKeys}

-- the keys of the game lie between the bounds
pub record IsWithin (b : Bounds) (g : Game) : Type 0 where
  pub keys : Keys
  pub has : HasKeys g keys
  pub from_low : b.least.low ≤ℤ keys.low
  pub from_high : b.least.high ≤ℤ keys.high
  pub to_low : keys.low ≤ℤ b.greatest.low
  pub to_high : keys.high ≤ℤ b.greatest.high

-- those of each game do, and the bounds fit where keys do
pub record AreBounds (gs : List Game) (b : Bounds) : Type 0 where
  pub each : (g : Game) → Among g gs → IsWithin b g
  pub least_low : unsigned_abs b.least.low < 2 ^ 126
  pub least_high : unsigned_abs b.least.high < 2 ^ 126
  pub greatest_low : unsigned_abs b.greatest.low < 2 ^ 126
  pub greatest_high : unsigned_abs b.greatest.high < 2 ^ 126

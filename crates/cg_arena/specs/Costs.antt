-- What the item of a game costs.
use Rattle.std.specs.Prelude.{◌≡◌, ℕ, ◌+◌, ◌<◌, ◌^◌, length, if◌then◌else◌}
use Rattle.cg_dyadic.specs.Number.{is_long}
use Rattle.cg_form.specs.Depth.{depth_of}
use Rattle.cg_form.specs.Game.{Game, lefts, number, options, rights}
use Rattle.cg_form.specs.Range.{IsInRange}
use Rattle.cg_arena.specs.declared.charge.Charge.{Charge}

-- the cells that a number takes, 1 for a narrow and 3 for a long one, and 1 more than the lengths of both lists for another form
abbrev pub cost_of : Game → ℕ
cost_of (number x) = if is_long x then 3 else 1
cost_of (options ls rs) = 1 + length (lefts (options ls rs)) + length (rights (options ls rs))

-- the depth and the cost are the game's; a cost fits, and a number is in range
pub record IsCharge (g : Game) (c : Charge) : Type 0 where
  pub depth : c.depth ≡ depth_of g
  pub cost : c.cost ≡ cost_of g
  pub small : c.cost < 2 ^ 63
  pub in_range : IsInRange g

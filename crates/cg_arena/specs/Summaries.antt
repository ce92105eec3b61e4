-- What a summary says of a game.
use Rattle.std.specs.Prelude.{◌≡◌, ◌<◌, ◌^◌, Bool, true, false, cond}
use Rattle.cg_dyadic.specs.declared.cut.Cut.{Cut}
use Rattle.cg_form.specs.Cut.{AnyNumber, CutIs}
use Rattle.cg_form.specs.Depth.{depth_of}
use Rattle.cg_form.specs.Game.{Game}
use Rattle.cg_form.specs.Range.{IsInRange}
use Rattle.cg_arena.specs.Costs.{cost_of}
use Rattle.cg_arena.specs.declared.summary.Summary.{Summary}

-- the side's own of two cuts
abbrev pub chosen_cut : Bool → Cut → Cut → Cut
chosen_cut s low high = cond s low high

-- the numbers that are at most the game, and those that are at least the game
pub record HasCuts (g : Game) (p : Summary) : Type 0 where
  pub low : CutIs AnyNumber true p.low g
  pub high : CutIs AnyNumber false p.high g

pub record IsSummary (g : Game) (p : Summary) : Type 0 where
  pub cuts : HasCuts g p
  pub depth : p.depth ≡ depth_of g
  pub cost : p.cost ≡ cost_of g
  pub small : p.cost < 2 ^ 63
  -- a number is in range
  pub in_range : IsInRange g

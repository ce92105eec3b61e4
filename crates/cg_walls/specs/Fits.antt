-- Points within the bound and before the end of all times.
use Rattle.std.specs.Prelude.{◌<◌, neg_ℤ, ◌≤ℤ◌, List, [], ◌∷◌}
use Rattle.cg_walls.specs.declared.TheConstants.{BOUND, END}
use Rattle.cg_walls.specs.declared.bends.Point.{Point}

pub record PointFits (p : Point) : Type 0 where
  pub low : neg_ℤ BOUND ≤ℤ p.value
  pub high : p.value ≤ℤ BOUND
  pub soon : p.at < END

abbrev pub AllFit : List Point → Type 0
AllFit [] = Unit {0}
AllFit (p ∷ ps) = PointFits p × AllFit ps

-- The boards that play can come to from a board: those of each Left move in order, those of each Right move in order, then the
-- board itself, each only where it comes first.
use Rattle.std.specs.Prelude.{◌≡◌, ℕ, zero, suc, List, [], ◌∷◌, ◌++◌}
use Rattle.std.specs.List.{flat_map}
use Rattle.cg_form.specs.Firsts as firsts
use Rattle.cg_moves.specs.Grid.{Grid, is_same}
use Rattle.cg_moves.specs.Rules.{GameRules, followers}

-- the boards without those that are the first
abbrev pub without : Grid → List Grid → List Grid
without p qs = firsts.without is_same p qs

-- each board only where it comes first
abbrev pub once : List Grid → List Grid
once ps = firsts.once is_same ps

module _ (r : GameRules) where
  -- the boards of so many moves at most, as often as play can come to them
  unfoldable pub reached_within : ℕ → Grid → List Grid
  reached_within zero p = p ∷ []
  reached_within (suc n) p = flat_map (λ q. reached_within n q) (followers r p) ++ (p ∷ [])

  -- all of them: no play has more moves than the measure. The law function `reached` says the rule without the bound
  unfoldable pub all_reached : Grid → List Grid
  all_reached p = reached_within (suc (r.measure p)) p

  abbrev pub IsListOfReached : Grid → Type 0
  IsListOfReached p = all_reached p ≡ flat_map all_reached (followers r p) ++ (p ∷ [])

  unfoldable pub reach_of : Grid → List Grid
  reach_of p = once (all_reached p)

-- The best of a list of games, in no order.
use Rattle.std.specs.Prelude.{◌++◌, Bool, not, cond, List, [], ◌∷◌}
use Rattle.cg_form.specs.Best.{keep}
use Rattle.cg_form.specs.Game.{Among, Game}
use Rattle.cg_form.specs.Order.{Le, no_one}
use Rattle.cg_form.specs.Side.{AtMost, at_most}

-- no two games of the list are comparable
abbrev pub AreApart : List Game → Type 0
AreApart [] = Unit {0}
AreApart (g ∷ gs) = ((h : Game) → Among h gs → (¬ Le g h) × (¬ Le h g)) × AreApart gs

-- each is in the list, each of the list is no better than some, and no two are comparable
pub record Undominated (s : Bool) (all undominated : List Game) : Type 0 where
  pub inside : (x : Game) → Among x undominated → Among x all
  pub top : (x : Game) → Among x all → (c : Game) × Among c undominated × AtMost s x c
  pub apart : AreApart undominated

-- the list less what is no better than x, and x at its end; or the list, if x is no better than one of it
abbrev pub with_last : Bool → List Game → Game → List Game
with_last s gs x = cond (no_one (at_most s x) gs) (keep (λ c. not (at_most s c x)) gs ++ (x ∷ [])) gs

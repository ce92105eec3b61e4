-- Lists of games of which no two are comparable, and the two terms of a sum.
use Rattle.std.specs.Prelude.{◌≡◌, ℕ, Bool, cond, Option, Some, None, ◌<◌, List, length, slice_index_or, take, drop}
use Rattle.cg_arena.specs.declared.terms.FirstTerm.{FirstTerm}
use Rattle.cg_form.specs.Game.{Game}
use Rattle.cg_form.specs.Order.{Le}

-- of any two games at different places, neither is at most the other
pub record NoneComparable (gs : List Game) : Type 0 where
  pub each : (i j : ℕ) (d : Game) → i < length gs → j < length gs → ¬ (i ≡ j)
      → ¬ Le (slice_index_or gs i d) (slice_index_or gs j d)

-- no two of the first n games are comparable, and no two of the others
pub record NoneComparableByTerm (n : ℕ) (gs : List Game) : Type 0 where
  pub first : NoneComparable (take n gs)
  pub second : NoneComparable (drop n gs)

-- where a game is a sum of two terms, no two of its options on one side that come from one term are comparable
abbrev pub ApartByTerm : Option FirstTerm → List Game → List Game → Type 0
ApartByTerm None ls rs = Unit {0}
ApartByTerm (Some f) ls rs = NoneComparableByTerm f.lefts ls × NoneComparableByTerm f.rights rs

-- how many of the player's options come from the first term
abbrev pub count_for : Bool → FirstTerm → ℕ
count_for left f = cond left f.lefts f.rights

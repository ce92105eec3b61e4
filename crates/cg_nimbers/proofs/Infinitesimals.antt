-- Games between 0 and every number that is better than 0, as a side sees it.
use Rattle.std.proofs.Common.{inl, inr, Bool, IsTrue}
use Rattle.cg_dyadic.specs.Cut.{number_at_most}
use Rattle.cg_dyadic.specs.Number.{Number}
use Rattle.cg_dyadic.proofs.Truth.{true-or-not}
use Rattle.cg_form.specs.Game.{Among, Game, number}
use Rattle.cg_form.specs.Side.{AtMost, far, near}
use Rattle.cg_form.specs.Simple.{NoNumber}
use Rattle.cg_form.proofs.Sides.{not_far, not_near, number_side-less, number_side-trans, side-numbers, side_equal, side_trans}
use Rattle.cg_nimbers.specs.Nimbers.{zero_form, zero_number}

-- x is better than 0
pub record Beyond (s : Bool) (x : Number) : Type 0 where
  pub better : ¬ IsTrue (number_at_most s x zero_number)

-- g is no better than any number that is better than 0
pub record Slight (s : Bool) (g : Game) : Type 0 where
  pub under : (x : Number) → Beyond s x → AtMost s g (number x)

-- a number that is no better than 0
pub slight-number : (s : Bool) (y : Number) → IsTrue (number_at_most s y zero_number) → Slight s (number y)
slight-number s y l = record {
  under = λ x p. side-numbers s y x (number_side-trans s y zero_number x l (number_side-less s x zero_number p.better));
}

-- a number that is better than 0 is better than every game with a slight option of the other side
pub beyond_far : (s : Bool) (x : Number) (a r : Game) → Beyond s x → Among r (far s a) → Slight s r
    → ¬ AtMost s (number x) a
beyond_far s x a r p m i l = not_far s a r m (side_trans s r (number x) a (i.under x p) l)

-- a game with the own option 0 and a slight option of the other side equals no number
pub slight-no_number : (s : Bool) (g r : Game) → Among zero_form (near s g) → Among r (far s g) → Slight s r →
    NoNumber g
slight-no_number s g r z m i x e = elim (true-or-not (number_at_most s x zero_number)) [
  | inl l ↦ not_near s g zero_form z
      (side_trans s g (number x) zero_form (side_equal s g (number x) (e.1, e.0)) (side-numbers s x zero_number l))
  | inr n ↦ beyond_far s x g r (record { better = n }) m i (side_equal s (number x) g e)
]

-- Left survives as second player on H + (-G) exactly where G <= H, and what play says of the options.
use Rattle.std.proofs.Common.{◌≡◌, ℕ, ◌<◌, arith, zero, suc, inl, inr, sym, ◌∙◌, List, Bool, true, false, ◌&&◌, IsTrue}
use Rattle.cg_dyadic.proofs.Truth.{differ, false-from}
use Rattle.cg_form.specs.Game.{Among, Game, lefts, rights}
use Rattle.cg_form.specs.Order.{Equal, Le, le, no_one}
use Rattle.cg_form.specs.Play.{left_survives, left_survives_within, right_survives, right_survives_within}
use Rattle.cg_form.specs.Size.{size}
use Rattle.cg_form.specs.Sum.{negative, nothing, sum}
use Rattle.cg_form.proofs.Negative.{sum-negative}
use Rattle.cg_form.proofs.Order.{all-or-some, le-options, no_one-agree, no_one-all, no_one-each}
use Rattle.cg_form.proofs.Preorder.{le_trans}
use Rattle.cg_form.proofs.Size.{size-lefts, size-rights}
use Rattle.cg_form.proofs.SumOrder.{le-sum, sum-le}

and_true : (b : Bool) → (b && true) ≡ b
and_true b = grind arith

pub nothing-le : (g : Game) → le nothing g ≡ no_one (λ b. le b nothing) (rights g)
nothing-le g = le-options nothing g

pub le-nothing : (g : Game) → le g nothing ≡ no_one (λ a. le nothing a) (lefts g)
le-nothing g = le-options g nothing ∙ and_true (no_one (λ a. le nothing a) (lefts g))

pub left_survives_within-le : (n : ℕ) (g : Game) → size g < n → left_survives_within n g ≡ le nothing g
unfolding left_survives_within
left_survives_within-le zero g p = absurd (omega arith)
left_survives_within-le (suc n) g p =
    no_one-agree (λ y. no_one (λ z. left_survives_within n z) (lefts y)) (λ y. le y nothing) (rights g) (λ y m.
    let s = size-rights g y m in
    no_one-agree (λ z. left_survives_within n z) (λ z. le nothing z) (lefts y) (λ z w.
    let t = size-lefts y z w in left_survives_within-le n z (omega arith))
    ∙ sym (le-nothing y))
    ∙ sym (nothing-le g)

pub right_survives_within-le : (n : ℕ) (g : Game) → size g < n → right_survives_within n g ≡ le g nothing
unfolding right_survives_within
right_survives_within-le zero g p = absurd (omega arith)
right_survives_within-le (suc n) g p =
    no_one-agree (λ y. no_one (λ z. right_survives_within n z) (rights y)) (λ y. le nothing y) (lefts g) (λ y m.
    let s = size-lefts g y m in
    no_one-agree (λ z. right_survives_within n z) (λ z. le z nothing) (rights y) (λ z w.
    let t = size-rights y z w in right_survives_within-le n z (omega arith))
    ∙ sym (nothing-le y))
    ∙ sym (le-nothing g)

pub left_survives-le : (g : Game) → left_survives g ≡ le nothing g
unfolding left_survives
left_survives-le g = left_survives_within-le (suc (size g)) g (omega arith)

pub right_survives-le : (g : Game) → right_survives g ≡ le g nothing
unfolding right_survives
right_survives-le g = right_survives_within-le (suc (size g)) g (omega arith)

-- ---- the difference of two games

pub le-survives : (g h : Game) → Le g h → IsTrue (left_survives (sum h (negative g)))
le-survives g h p =
    left_survives-le (sum h (negative g))
    ∙ le_trans nothing (sum g (negative g)) (sum h (negative g)) ((sum-negative g).1) (sum-le g h (negative g) p)

pub survives-le : (g h : Game) → IsTrue (left_survives (sum h (negative g))) → Le g h
survives-le g h p =
    le-sum g h (negative g) (le_trans (sum g (negative g)) nothing (sum h (negative g)) ((sum-negative g).0)
    (sym (left_survives-le (sum h (negative g))) ∙ p))

pub le-survives_right : (g h : Game) → Le g h → IsTrue (right_survives (sum g (negative h)))
le-survives_right g h p =
    right_survives-le (sum g (negative h))
    ∙ le_trans (sum g (negative h)) (sum h (negative h)) nothing (sum-le g h (negative h) p) ((sum-negative h).0)

pub survives_right-le : (g h : Game) → IsTrue (right_survives (sum g (negative h))) → Le g h
survives_right-le g h p =
    le-sum g h (negative h) (le_trans (sum g (negative h)) nothing (sum h (negative h))
    (sym (right_survives-le (sum g (negative h))) ∙ p) ((sum-negative h).1))

-- equal games: the second player wins G + (-H)
pub equal-second_wins : (g h : Game) → Equal g h
    → IsTrue (left_survives (sum g (negative h))) × IsTrue (right_survives (sum g (negative h)))
equal-second_wins g h e = (le-survives h g e.1, le-survives_right g h e.0)

pub second_wins-equal : (g h : Game)
    → IsTrue (left_survives (sum g (negative h))) × IsTrue (right_survives (sum g (negative h))) → Equal g h
second_wins-equal g h w = (survives_right-le g h w.1, survives-le h g w.0)

-- ---- by the options

-- a test fails for each of the list or passes for one, and which it is tells what `no_one` is
some_passes : (t : Game → Bool) (gs : List Game) → no_one t gs ≡ false → (z : Game) × Among z gs × IsTrue (t z)
some_passes t gs e = elim (all-or-some t gs) [
  | inr w ↦ w
  | inl never ↦ absurd (differ (no_one t gs) (no_one-all t gs never) e)
]

one_passes : (t : Game → Bool) (gs : List Game) (z : Game) → Among z gs → IsTrue (t z) → no_one t gs ≡ false
one_passes t gs z m k = false-from (no_one t gs) (λ h. differ (t z) k (no_one-each t gs h z m))

pub left_survives-options : (g : Game) → left_survives g ≡ no_one (λ y. no_one left_survives (lefts y)) (rights g)
left_survives-options g =
    left_survives-le g ∙ nothing-le g ∙ no_one-agree (λ b. le b nothing) (λ y. no_one left_survives (lefts y))
    (rights g) (λ y m.
    le-nothing y ∙ no_one-agree (λ z. le nothing z) left_survives (lefts y) (λ z w. sym (left_survives-le z)))

pub right_survives-options : (g : Game) → right_survives g ≡ no_one (λ y. no_one right_survives (rights y)) (lefts g)
right_survives-options g =
    right_survives-le g ∙ le-nothing g ∙ no_one-agree (λ a. le nothing a) (λ y. no_one right_survives (rights y))
    (lefts g) (λ y m.
    nothing-le y ∙ no_one-agree (λ z. le z nothing) right_survives (rights y) (λ z w. sym (right_survives-le z)))

pub left_survives-unfold : (g : Game) → IsTrue (left_survives g) → (y : Game) → Among y (rights g)
    → (z : Game) × Among z (lefts y) × IsTrue (left_survives z)
left_survives-unfold g h y m = some_passes left_survives (lefts y)
    (no_one-each (λ y. no_one left_survives (lefts y)) (rights g) (sym (left_survives-options g) ∙ h) y m)

pub left_survives-fold : (g : Game)
    → ((y : Game) → Among y (rights g) → (z : Game) × Among z (lefts y) × IsTrue (left_survives z))
    → IsTrue (left_survives g)
left_survives-fold g f = left_survives-options g ∙ no_one-all (λ y. no_one left_survives (lefts y)) (rights g)
    (λ y m. let (z, w, k) = f y m in one_passes left_survives (lefts y) z w k)

pub right_survives-unfold : (g : Game) → IsTrue (right_survives g) → (y : Game) → Among y (lefts g)
    → (z : Game) × Among z (rights y) × IsTrue (right_survives z)
right_survives-unfold g h y m = some_passes right_survives (rights y)
    (no_one-each (λ y. no_one right_survives (rights y)) (lefts g) (sym (right_survives-options g) ∙ h) y m)

pub right_survives-fold : (g : Game)
    → ((y : Game) → Among y (lefts g) → (z : Game) × Among z (rights y) × IsTrue (right_survives z))
    → IsTrue (right_survives g)
right_survives-fold g f = right_survives-options g ∙ no_one-all (λ y. no_one right_survives (rights y)) (lefts g)
    (λ y m. let (z, w, k) = f y m in one_passes right_survives (rights y) z w k)

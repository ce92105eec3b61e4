-- The outcome of a game is that of its comparison with 0.
use Rattle.std.proofs.Common.{◌≡◌, refl, ap, sym, ◌∙◌, Bool, true, false, IsTrue}
use Rattle.cg_dyadic.proofs.Truth.{differ, false-from}
use Rattle.cg_form.specs.Game.{Game}
use Rattle.cg_form.specs.Order.{Equal, Le, le}
use Rattle.cg_form.specs.Outcome.{left_wins, next_wins, outcome, outcome_by, previous_wins, right_wins}
use Rattle.cg_form.specs.Play.{right_survives}
use Rattle.cg_form.specs.Sum.{nothing}
use Rattle.cg_form.proofs.Play.{left_survives-le, right_survives-le}

by_left : (b c : Bool) → outcome_by b c ≡ left_wins → IsTrue b × (c ≡ false)
by_left true true e = absurd (cc)
by_left true false e = (refl, refl)
by_left false true e = absurd (cc)
by_left false false e = absurd (cc)

by_right : (b c : Bool) → outcome_by b c ≡ right_wins → (b ≡ false) × IsTrue c
by_right true true e = absurd (cc)
by_right true false e = absurd (cc)
by_right false true e = (refl, refl)
by_right false false e = absurd (cc)

by_previous : (b c : Bool) → outcome_by b c ≡ previous_wins → IsTrue b × IsTrue c
by_previous true true e = (refl, refl)
by_previous true false e = absurd (cc)
by_previous false true e = absurd (cc)
by_previous false false e = absurd (cc)

by_next : (b c : Bool) → outcome_by b c ≡ next_wins → (b ≡ false) × (c ≡ false)
by_next true true e = absurd (cc)
by_next true false e = absurd (cc)
by_next false true e = absurd (cc)
by_next false false e = (refl, refl)

by : (g : Game) (b c : Bool) → le nothing g ≡ b → le g nothing ≡ c → outcome g ≡ outcome_by b c
by g b c e f = ap (λ z. outcome_by z (right_survives g)) (left_survives-le g ∙ e)
    ∙ ap (λ z. outcome_by b z) (right_survives-le g ∙ f)

outcome_is : (g : Game) → outcome g ≡ outcome_by (le nothing g) (le g nothing)
outcome_is g = by g (le nothing g) (le g nothing) refl refl

not_le : (g h : Game) → le g h ≡ false → ¬ Le g h
not_le g h e k = differ (le g h) k e

pub left-greater : (g : Game) → outcome g ≡ left_wins → Le nothing g × (¬ Le g nothing)
left-greater g e = let (p, q) = by_left (le nothing g) (le g nothing) (sym (outcome_is g) ∙ e) in
    (p, not_le g nothing q)

pub greater-left : (g : Game) → Le nothing g → ¬ Le g nothing → outcome g ≡ left_wins
greater-left g p q = by g true false p (false-from (le g nothing) q)

pub right-less : (g : Game) → outcome g ≡ right_wins → Le g nothing × (¬ Le nothing g)
right-less g e = let (p, q) = by_right (le nothing g) (le g nothing) (sym (outcome_is g) ∙ e) in (q, not_le nothing g p)

pub less-right : (g : Game) → Le g nothing → ¬ Le nothing g → outcome g ≡ right_wins
less-right g p q = by g false true (false-from (le nothing g) q) p

pub previous-equal : (g : Game) → outcome g ≡ previous_wins → Equal g nothing
previous-equal g e = let (p, q) = by_previous (le nothing g) (le g nothing) (sym (outcome_is g) ∙ e) in (q, p)

pub equal-previous : (g : Game) → Equal g nothing → outcome g ≡ previous_wins
equal-previous g e = by g true true e.1 e.0

pub next-confused : (g : Game) → outcome g ≡ next_wins → (¬ Le nothing g) × (¬ Le g nothing)
next-confused g e = let (p, q) = by_next (le nothing g) (le g nothing) (sym (outcome_is g) ∙ e) in
    (not_le nothing g p, not_le g nothing q)

pub confused-next : (g : Game) → ¬ Le nothing g → ¬ Le g nothing → outcome g ≡ next_wins
confused-next g p q = by g false false (false-from (le nothing g) p) (false-from (le g nothing) q)

-- A canonical game has no dominated and no reversible option: a number, too, whose options are those of its canonical
-- form.
use Rattle.std.proofs.Common.{◌≡◌, ℕ, ◌<◌, arith, zero, suc, inl, inr, ap, sym, ◌∙◌, pos, negsuc}
use Rattle.cg_dyadic.specs.Number.{AmongNumbers, Number, NumberLe, between, number_lefts, number_rights, weight, whole}
use Rattle.cg_dyadic.proofs.Values.{less-le, not_le-left_number, not_le-right_number, number_gap, number_le-same, number_le-trans}
use Rattle.cg_dyadic.proofs.Weight.{weight-lefts, weight-rights}
use Rattle.cg_form.specs.Canonical.{Canonical, LeftDominated, LeftReversible, RightDominated, RightReversible}
use Rattle.cg_form.specs.Game.{Among, Game, lefts, number, options, rights}
use Rattle.cg_form.proofs.Among.{among-map}
use Rattle.cg_form.proofs.Numbers.{le-numbers}

-- ---- a number has at most one option on each side

one_left : (x y z : Number) → AmongNumbers y (number_lefts x) → AmongNumbers z (number_lefts x) → y ≡ z
one_left (whole (pos zero)) y z m n = absurd m
one_left (whole (pos (suc k))) y z (inl e) (inl f) = e ∙ sym f
one_left (whole (pos (suc k))) y z (inr m) n = absurd m
one_left (whole (pos (suc k))) y z (inl e) (inr n) = absurd n
one_left (whole (negsuc k)) y z m n = absurd m
one_left (between i k) y z (inl e) (inl f) = e ∙ sym f
one_left (between i k) y z (inr m) n = absurd m
one_left (between i k) y z (inl e) (inr n) = absurd n

one_right : (x y z : Number) → AmongNumbers y (number_rights x) → AmongNumbers z (number_rights x) → y ≡ z
one_right (whole (pos k)) y z m n = absurd m
one_right (whole (negsuc k)) y z (inl e) (inl f) = e ∙ sym f
one_right (whole (negsuc k)) y z (inr m) n = absurd m
one_right (whole (negsuc k)) y z (inl e) (inr n) = absurd n
one_right (between i k) y z (inl e) (inl f) = e ∙ sym f
one_right (between i k) y z (inr m) n = absurd m
one_right (between i k) y z (inl e) (inr n) = absurd n

-- ---- nothing of less weight lies between a number and its option

other_weight : (x z : Number) → weight z < weight x → ¬ (x ≡ z)
other_weight x z w e = let p = ap weight e in absurd (omega arith)

left_beyond : (n : ℕ) (x y z : Number) → AmongNumbers y (number_lefts x) → weight z < n → weight z < weight x
    → ¬ NumberLe z y → ¬ NumberLe z x
left_beyond zero x y z m s w above h = absurd (omega arith)
left_beyond (suc n) x y z m s w above h =
    elim ((number_gap x z (λ l. other_weight x z w (number_le-same x z l h))).way) [
      | inl (v, i, l) ↦ above (rw (one_left x v y i m) at l)
      | inr (v, i, l) ↦
          let u = weight-rights z v i in
          left_beyond n x y v m (omega arith) (omega arith)
          (λ k. above (number_le-trans z v y (less-le v z (not_le-right_number z v i)) k)) l
    ]

right_beyond : (n : ℕ) (x y z : Number) → AmongNumbers y (number_rights x) → weight z < n → weight z < weight x
    → ¬ NumberLe y z → ¬ NumberLe x z
right_beyond zero x y z m s w under h = absurd (omega arith)
right_beyond (suc n) x y z m s w under h =
    elim ((number_gap z x (λ l. other_weight x z w (number_le-same x z h l))).way) [
      | inl (v, i, l) ↦
          let u = weight-lefts z v i in
          right_beyond n x y v m (omega arith) (omega arith)
          (λ k. under (number_le-trans y v z k (less-le z v (not_le-left_number z v i)))) l
      | inr (v, i, l) ↦ under (rw (one_right x v y i m) at l)
    ]

-- ---- so no option of a number is dominated or reversible

number_left_undominated : (x : Number) (a : Game) → Among a (lefts (number x)) → ¬ LeftDominated (number x) a
number_left_undominated x a m d =
    let (y, e, i) = among-map (number_lefts x) number a m in
    let (z, f, j) = among-map (number_lefts x) number d.by d.option in
    d.other (e ∙ ap number (one_left x y z i j) ∙ sym f)

number_right_undominated : (x : Number) (a : Game) → Among a (rights (number x)) → ¬ RightDominated (number x) a
number_right_undominated x a m d =
    let (y, e, i) = among-map (number_rights x) number a m in
    let (z, f, j) = among-map (number_rights x) number d.by d.option in
    d.other (e ∙ ap number (one_right x y z i j) ∙ sym f)

number_left_irreversible : (x : Number) (a : Game) → Among a (lefts (number x)) → ¬ LeftReversible (number x) a
number_left_irreversible x a m r =
    let (y, e, i) = among-map (number_lefts x) number a m in
    let (z, f, j) = among-map (number_rights y) number r.through (rw e at r.answer) in
    let u = weight-lefts x y i in let v = weight-rights y z j in
    left_beyond (suc (weight z)) x y z i (omega arith) (omega arith) (not_le-right_number y z j)
    (le-numbers z x (rw f at r.back))

number_right_irreversible : (x : Number) (a : Game) → Among a (rights (number x)) → ¬ RightReversible (number x) a
number_right_irreversible x a m r =
    let (y, e, i) = among-map (number_rights x) number a m in
    let (z, f, j) = among-map (number_lefts y) number r.through (rw e at r.answer) in
    let u = weight-rights x y i in let v = weight-lefts y z j in
    right_beyond (suc (weight z)) x y z i (omega arith) (omega arith) (not_le-left_number y z j)
    (le-numbers x z (rw f at r.back))

-- ---- every canonical game

pub left_undominated : (k a : Game) → Canonical k → Among a (lefts k) → ¬ LeftDominated k a
left_undominated (number x) a c m = number_left_undominated x a m
left_undominated (options ls rs) a c m = c.0.left_undominated a m

pub right_undominated : (k a : Game) → Canonical k → Among a (rights k) → ¬ RightDominated k a
right_undominated (number x) a c m = number_right_undominated x a m
right_undominated (options ls rs) a c m = c.0.right_undominated a m

pub left_irreversible : (k a : Game) → Canonical k → Among a (lefts k) → ¬ LeftReversible k a
left_irreversible (number x) a c m = number_left_irreversible x a m
left_irreversible (options ls rs) a c m = c.0.left_irreversible a m

pub right_irreversible : (k a : Game) → Canonical k → Among a (rights k) → ¬ RightReversible k a
right_irreversible (number x) a c m = number_right_irreversible x a m
right_irreversible (options ls rs) a c m = c.0.right_irreversible a m

-- Of three numbers, one is not the sum of the other two: then an option is still on the same side, or just at it.
use Rattle.std.proofs.Common.{◌≡◌, refl, ℕ, ◌-◌, ◌≤◌, ◌<◌, arith, zero, suc, ap, ℤ, pos, negsuc, ◌+ℤ◌, ◌≤ℤ◌, ◌<ℤ◌, ◌⊎◌, inl, inr}
use Rattle.std.proofs.lemmas.Int.{ints}
use Rattle.cg_dyadic.specs.Number.{AmongNumbers, Number, between, exp_of, number_lefts, number_rights, ratio, whole}
use Rattle.cg_dyadic.specs.Units.{units}
use Rattle.cg_dyadic.proofs.Integers.{le_or_gt, le_or_lt}
use Rattle.cg_dyadic.proofs.Scale.{doubled-add, doubled-le, exp-ratio, not_le-units, units-between, units-left, units_at}
use Rattle.cg_dyadic.proofs.Values.{not_le-left_number, not_le-right_number}

pub exp-lefts : (x y : Number) → AmongNumbers y (number_lefts x) → exp_of y ≤ exp_of x
exp-lefts (whole (pos zero)) y m = absurd m
exp-lefts (whole (pos (suc n))) y (inl e) = let s : exp_of y ≡ 0 = ap exp_of e in omega arith
exp-lefts (whole (pos (suc n))) y (inr m) = absurd m
exp-lefts (whole (negsuc n)) y m = absurd m
exp-lefts (between n k) y (inl e) = let s : exp_of y ≡ exp_of (ratio n k) = ap exp_of e in let r = exp-ratio n k in omega arith
exp-lefts (between n k) y (inr m) = absurd m

pub exp-rights : (x y : Number) → AmongNumbers y (number_rights x) → exp_of y ≤ exp_of x
exp-rights (whole (pos n)) y m = absurd m
exp-rights (whole (negsuc n)) y (inl e) = let s : exp_of y ≡ 0 = ap exp_of e in omega arith
exp-rights (whole (negsuc n)) y (inr m) = absurd m
exp-rights (between n k) y (inl e) = let s : exp_of y ≡ exp_of (ratio (n +ℤ pos 1) k) = ap exp_of e in let r = exp-ratio (n +ℤ pos 1) k in omega arith
exp-rights (between n k) y (inr m) = absurd m

pub units-lefts : (s : ℕ) (x y : Number) → exp_of x ≤ s → AmongNumbers y (number_lefts x) → units s y <ℤ units s x
units-lefts s x y p m = let q = exp-lefts x y m in not_le-units s x y p (omega arith) (not_le-left_number x y m)

pub units-rights : (s : ℕ) (x y : Number) → exp_of x ≤ s → AmongNumbers y (number_rights x) → units s x <ℤ units s y
units-rights s x y p m = let q = exp-rights x y m in not_le-units s y x (omega arith) p (not_le-right_number x y m)

-- ---- another scale

lift_below : (s e : ℕ) (x y z : Number) → exp_of x ≤ e → exp_of y ≤ e → exp_of z ≤ e → e ≤ s → units e z ≤ℤ (units e x +ℤ units e y) → units s z ≤ℤ (units s x +ℤ units s y)
lift_below s e x y z p q r t h =
    let a = units_at s e x p t in let b = units_at s e y q t in let c = units_at s e z r t in
    let d = doubled-le (s - e) (units e z) (units e x +ℤ units e y) h in
    let f = doubled-add (s - e) (units e x) (units e y) in
    omega (arith, ints)

lift_above : (s e : ℕ) (x y z : Number) → exp_of x ≤ e → exp_of y ≤ e → exp_of z ≤ e → e ≤ s → (units e x +ℤ units e y) ≤ℤ units e z → (units s x +ℤ units s y) ≤ℤ units s z
lift_above s e x y z p q r t h =
    let a = units_at s e x p t in let b = units_at s e y q t in let c = units_at s e z r t in
    let d = doubled-le (s - e) (units e x +ℤ units e y) (units e z) h in
    let f = doubled-add (s - e) (units e x) (units e y) in
    omega (arith, ints)

drop_below : (s e : ℕ) (x y z : Number) → exp_of x ≤ e → exp_of y ≤ e → exp_of z ≤ e → e ≤ s → units s z <ℤ (units s x +ℤ units s y) → units e z <ℤ (units e x +ℤ units e y)
drop_below s e x y z p q r t h = elim (le_or_lt (units e x +ℤ units e y) (units e z)) [
  | inl k ↦ let l = lift_above s e x y z p q r t k in absurd (omega (arith, ints))
  | inr k ↦ k
]

drop_above : (s e : ℕ) (x y z : Number) → exp_of x ≤ e → exp_of y ≤ e → exp_of z ≤ e → e ≤ s → (units s x +ℤ units s y) <ℤ units s z → (units e x +ℤ units e y) <ℤ units e z
drop_above s e x y z p q r t h = elim (le_or_lt (units e z) (units e x +ℤ units e y)) [
  | inl k ↦ let l = lift_below s e x y z p q r t k in absurd (omega (arith, ints))
  | inr k ↦ k
]

-- ---- the sum of x and y is greater than z

pub record SumAbove (s : ℕ) (x y z : Number) : Type 0 where
  pub way : ((a : Number) × AmongNumbers a (number_lefts x) × (units s z ≤ℤ (units s a +ℤ units s y))) ⊎ ((a : Number) × AmongNumbers a (number_lefts y) × (units s z ≤ℤ (units s x +ℤ units s a))) ⊎ ((a : Number) × AmongNumbers a (number_rights z) × (units s a ≤ℤ (units s x +ℤ units s y)))

first_above : (s : ℕ) (n : ℤ) (k : ℕ) (y z : Number) → exp_of y ≤ suc k → exp_of z ≤ suc k → suc k ≤ s → units s z <ℤ (units s (between n k) +ℤ units s y) → SumAbove s (between n k) y z
first_above s n k y z p q t h =
    let d = drop_below s (suc k) (between n k) y z (omega arith) p q t h in
    let a = units-between n k in let b = units-left (n) k in let r = exp-ratio (n) k in
    record { way = inl (ratio (n) k, inl refl, lift_below s (suc k) (ratio (n) k) y z (omega arith) p q t (omega (arith, ints))) }

second_above : (s : ℕ) (n : ℤ) (k : ℕ) (x z : Number) → exp_of x ≤ suc k → exp_of z ≤ suc k → suc k ≤ s → units s z <ℤ (units s x +ℤ units s (between n k)) → SumAbove s x (between n k) z
second_above s n k x z p q t h =
    let d = drop_below s (suc k) x (between n k) z p (omega arith) q t h in
    let a = units-between n k in let b = units-left (n) k in let r = exp-ratio (n) k in
    record { way = inr (inl (ratio (n) k, inl refl, lift_below s (suc k) x (ratio (n) k) z p (omega arith) q t (omega (arith, ints)))) }

third_above : (s : ℕ) (n : ℤ) (k : ℕ) (x y : Number) → exp_of x ≤ suc k → exp_of y ≤ suc k → suc k ≤ s → units s (between n k) <ℤ (units s x +ℤ units s y) → SumAbove s x y (between n k)
third_above s n k x y p q t h =
    let d = drop_below s (suc k) x y (between n k) p q (omega arith) t h in
    let a = units-between n k in let b = units-left (n +ℤ pos 1) k in let r = exp-ratio (n +ℤ pos 1) k in
    record { way = inr (inr (ratio (n +ℤ pos 1) k, inl refl, lift_below s (suc k) x y (ratio (n +ℤ pos 1) k) p q (omega arith) t (omega (arith, ints)))) }

whole_above : (s : ℕ) (m n l : ℤ) → units s (whole l) <ℤ (units s (whole m) +ℤ units s (whole n)) → SumAbove s (whole m) (whole n) (whole l)
whole_above s (pos (suc m)) n l h =
    let d = drop_below s 0 (whole (pos (suc m))) (whole n) (whole l) (omega arith) (omega arith) (omega arith) (omega arith) h in
    record { way = inl (whole (pos m), inl refl, lift_below s 0 (whole (pos m)) (whole n) (whole l) (omega arith) (omega arith) (omega arith) (omega arith) (omega (arith, ints))) }
whole_above s m (pos (suc n)) l h =
    let d = drop_below s 0 (whole m) (whole (pos (suc n))) (whole l) (omega arith) (omega arith) (omega arith) (omega arith) h in
    record { way = inr (inl (whole (pos n), inl refl, lift_below s 0 (whole m) (whole (pos n)) (whole l) (omega arith) (omega arith) (omega arith) (omega arith) (omega (arith, ints)))) }
whole_above s m n (negsuc l) h =
    let d = drop_below s 0 (whole m) (whole n) (whole (negsuc l)) (omega arith) (omega arith) (omega arith) (omega arith) h in
    record { way = inr (inr (whole (negsuc l +ℤ pos 1), inl refl, lift_below s 0 (whole m) (whole n) (whole (negsuc l +ℤ pos 1)) (omega arith) (omega arith) (omega arith) (omega arith) (omega (arith, ints)))) }
whole_above s (pos zero) (pos zero) (pos l) h = let d = drop_below s 0 (whole (pos zero)) (whole (pos zero)) (whole (pos l)) (omega arith) (omega arith) (omega arith) (omega arith) h in absurd (omega (arith, ints))
whole_above s (pos zero) (negsuc n) (pos l) h = let d = drop_below s 0 (whole (pos zero)) (whole (negsuc n)) (whole (pos l)) (omega arith) (omega arith) (omega arith) (omega arith) h in absurd (omega (arith, ints))
whole_above s (negsuc m) (pos zero) (pos l) h = let d = drop_below s 0 (whole (negsuc m)) (whole (pos zero)) (whole (pos l)) (omega arith) (omega arith) (omega arith) (omega arith) h in absurd (omega (arith, ints))
whole_above s (negsuc m) (negsuc n) (pos l) h = let d = drop_below s 0 (whole (negsuc m)) (whole (negsuc n)) (whole (pos l)) (omega arith) (omega arith) (omega arith) (omega arith) h in absurd (omega (arith, ints))

third_max_above : (s : ℕ) (x y z : Number) → exp_of x < exp_of z → exp_of y ≤ exp_of z → exp_of z ≤ s → units s z <ℤ (units s x +ℤ units s y) → SumAbove s x y z
third_max_above s x y (whole l) p q r h = absurd (omega arith)
third_max_above s x y (between n k) p q r h = third_above s n k x y (omega arith) (omega arith) (omega arith) h

second_max_above : (s : ℕ) (x y z : Number) → exp_of x < exp_of y → exp_of z ≤ exp_of y → exp_of y ≤ s → units s z <ℤ (units s x +ℤ units s y) → SumAbove s x y z
second_max_above s x (whole l) z p q r h = absurd (omega arith)
second_max_above s x (between n k) z p q r h = second_above s n k x z (omega arith) (omega arith) (omega arith) h

first_max_above : (s : ℕ) (x y z : Number) → exp_of y ≤ exp_of x → exp_of z ≤ exp_of x → exp_of x ≤ s → units s z <ℤ (units s x +ℤ units s y) → SumAbove s x y z
first_max_above s (between n k) y z p q r h = first_above s n k y z (omega arith) (omega arith) (omega arith) h
first_max_above s (whole m) (whole n) (whole l) p q r h = whole_above s m n l h
first_max_above s (whole m) (whole n) (between l j) p q r h = absurd (omega arith)
first_max_above s (whole m) (between n k) z p q r h = absurd (omega arith)

pub sum_gap_above : (s : ℕ) (x y z : Number) → exp_of x ≤ s → exp_of y ≤ s → exp_of z ≤ s → units s z <ℤ (units s x +ℤ units s y) → SumAbove s x y z
sum_gap_above s x y z p q r h = elim (le_or_gt (exp_of y) (exp_of x)) [
  | inl a ↦ elim (le_or_gt (exp_of z) (exp_of x)) [
    | inl b ↦ first_max_above s x y z a b p h
    | inr b ↦ third_max_above s x y z b (omega arith) r h
  ]
  | inr a ↦ elim (le_or_gt (exp_of z) (exp_of y)) [
    | inl b ↦ second_max_above s x y z a b q h
    | inr b ↦ third_max_above s x y z (omega arith) (omega arith) r h
  ]
]

-- ---- the sum of x and y is less than z

pub record SumBelow (s : ℕ) (x y z : Number) : Type 0 where
  pub way : ((a : Number) × AmongNumbers a (number_rights x) × ((units s a +ℤ units s y) ≤ℤ units s z)) ⊎ ((a : Number) × AmongNumbers a (number_rights y) × ((units s x +ℤ units s a) ≤ℤ units s z)) ⊎ ((a : Number) × AmongNumbers a (number_lefts z) × ((units s x +ℤ units s y) ≤ℤ units s a))

first_below : (s : ℕ) (n : ℤ) (k : ℕ) (y z : Number) → exp_of y ≤ suc k → exp_of z ≤ suc k → suc k ≤ s → (units s (between n k) +ℤ units s y) <ℤ units s z → SumBelow s (between n k) y z
first_below s n k y z p q t h =
    let d = drop_above s (suc k) (between n k) y z (omega arith) p q t h in
    let a = units-between n k in let b = units-left (n +ℤ pos 1) k in let r = exp-ratio (n +ℤ pos 1) k in
    record { way = inl (ratio (n +ℤ pos 1) k, inl refl, lift_above s (suc k) (ratio (n +ℤ pos 1) k) y z (omega arith) p q t (omega (arith, ints))) }

second_below : (s : ℕ) (n : ℤ) (k : ℕ) (x z : Number) → exp_of x ≤ suc k → exp_of z ≤ suc k → suc k ≤ s → (units s x +ℤ units s (between n k)) <ℤ units s z → SumBelow s x (between n k) z
second_below s n k x z p q t h =
    let d = drop_above s (suc k) x (between n k) z p (omega arith) q t h in
    let a = units-between n k in let b = units-left (n +ℤ pos 1) k in let r = exp-ratio (n +ℤ pos 1) k in
    record { way = inr (inl (ratio (n +ℤ pos 1) k, inl refl, lift_above s (suc k) x (ratio (n +ℤ pos 1) k) z p (omega arith) q t (omega (arith, ints)))) }

third_below : (s : ℕ) (n : ℤ) (k : ℕ) (x y : Number) → exp_of x ≤ suc k → exp_of y ≤ suc k → suc k ≤ s → (units s x +ℤ units s y) <ℤ units s (between n k) → SumBelow s x y (between n k)
third_below s n k x y p q t h =
    let d = drop_above s (suc k) x y (between n k) p q (omega arith) t h in
    let a = units-between n k in let b = units-left (n) k in let r = exp-ratio (n) k in
    record { way = inr (inr (ratio (n) k, inl refl, lift_above s (suc k) x y (ratio (n) k) p q (omega arith) t (omega (arith, ints)))) }

whole_below : (s : ℕ) (m n l : ℤ) → (units s (whole m) +ℤ units s (whole n)) <ℤ units s (whole l) → SumBelow s (whole m) (whole n) (whole l)
whole_below s (negsuc m) n l h =
    let d = drop_above s 0 (whole (negsuc m)) (whole n) (whole l) (omega arith) (omega arith) (omega arith) (omega arith) h in
    record { way = inl (whole (negsuc m +ℤ pos 1), inl refl, lift_above s 0 (whole (negsuc m +ℤ pos 1)) (whole n) (whole l) (omega arith) (omega arith) (omega arith) (omega arith) (omega (arith, ints))) }
whole_below s m (negsuc n) l h =
    let d = drop_above s 0 (whole m) (whole (negsuc n)) (whole l) (omega arith) (omega arith) (omega arith) (omega arith) h in
    record { way = inr (inl (whole (negsuc n +ℤ pos 1), inl refl, lift_above s 0 (whole m) (whole (negsuc n +ℤ pos 1)) (whole l) (omega arith) (omega arith) (omega arith) (omega arith) (omega (arith, ints)))) }
whole_below s m n (pos (suc l)) h =
    let d = drop_above s 0 (whole m) (whole n) (whole (pos (suc l))) (omega arith) (omega arith) (omega arith) (omega arith) h in
    record { way = inr (inr (whole (pos l), inl refl, lift_above s 0 (whole m) (whole n) (whole (pos l)) (omega arith) (omega arith) (omega arith) (omega arith) (omega (arith, ints)))) }
whole_below s (pos m) (pos n) (pos zero) h = let d = drop_above s 0 (whole (pos m)) (whole (pos n)) (whole (pos zero)) (omega arith) (omega arith) (omega arith) (omega arith) h in absurd (omega (arith, ints))
whole_below s (pos m) (pos n) (negsuc l) h = let d = drop_above s 0 (whole (pos m)) (whole (pos n)) (whole (negsuc l)) (omega arith) (omega arith) (omega arith) (omega arith) h in absurd (omega (arith, ints))

third_max_below : (s : ℕ) (x y z : Number) → exp_of x < exp_of z → exp_of y ≤ exp_of z → exp_of z ≤ s → (units s x +ℤ units s y) <ℤ units s z → SumBelow s x y z
third_max_below s x y (whole l) p q r h = absurd (omega arith)
third_max_below s x y (between n k) p q r h = third_below s n k x y (omega arith) (omega arith) (omega arith) h

second_max_below : (s : ℕ) (x y z : Number) → exp_of x < exp_of y → exp_of z ≤ exp_of y → exp_of y ≤ s → (units s x +ℤ units s y) <ℤ units s z → SumBelow s x y z
second_max_below s x (whole l) z p q r h = absurd (omega arith)
second_max_below s x (between n k) z p q r h = second_below s n k x z (omega arith) (omega arith) (omega arith) h

first_max_below : (s : ℕ) (x y z : Number) → exp_of y ≤ exp_of x → exp_of z ≤ exp_of x → exp_of x ≤ s → (units s x +ℤ units s y) <ℤ units s z → SumBelow s x y z
first_max_below s (between n k) y z p q r h = first_below s n k y z (omega arith) (omega arith) (omega arith) h
first_max_below s (whole m) (whole n) (whole l) p q r h = whole_below s m n l h
first_max_below s (whole m) (whole n) (between l j) p q r h = absurd (omega arith)
first_max_below s (whole m) (between n k) z p q r h = absurd (omega arith)

pub sum_gap_below : (s : ℕ) (x y z : Number) → exp_of x ≤ s → exp_of y ≤ s → exp_of z ≤ s → (units s x +ℤ units s y) <ℤ units s z → SumBelow s x y z
sum_gap_below s x y z p q r h = elim (le_or_gt (exp_of y) (exp_of x)) [
  | inl a ↦ elim (le_or_gt (exp_of z) (exp_of x)) [
    | inl b ↦ first_max_below s x y z a b p h
    | inr b ↦ third_max_below s x y z b (omega arith) r h
  ]
  | inr a ↦ elim (le_or_gt (exp_of z) (exp_of y)) [
    | inl b ↦ second_max_below s x y z a b q h
    | inr b ↦ third_max_below s x y z (omega arith) (omega arith) r h
  ]
]

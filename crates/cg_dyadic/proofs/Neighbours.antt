-- The options of a number are the fractions a unit of its denominator below and above.
use Rattle.std.proofs.Common.{◌≡◌, refl, ap, sym, ℕ, zero, suc, ◌+◌, ℤ, pos, negsuc, ◌+ℤ◌, ◌-ℤ◌, arith, inl, [], ◌∷◌}
use Rattle.std.proofs.lemmas.Int.{ints}
use Rattle.cg_dyadic.specs.Number.{InRange, IsFraction, Number, between, exp_of, num_of, number_lefts, number_rights, ratio, whole}
use Rattle.cg_dyadic.proofs.Fractions.{fraction-at, fraction-ratio, fraction-unique}
use Rattle.cg_dyadic.proofs.Scale.{exp-ratio, units-left}
use Rattle.cg_dyadic.proofs.Weight.{in_range-lefts, in_range-rights}

along : (m n : ℤ) (k : ℕ) (x : Number) → m ≡ n → IsFraction m k x → IsFraction n k x
along m n k x e f = rw e at f

-- y is the one fraction m / 2 ^ k, so it is x
same : (m n : ℤ) (k : ℕ) (x y : Number) → m ≡ n → IsFraction n k x → IsFraction m k y → x ∷ [] ≡ y ∷ []
same m n k x y e f g = ap (λ z. z ∷ []) (fraction-unique n k x y f (along m n k y e g))

half_fraction : (n : ℤ) (k : ℕ) → IsFraction (n +ℤ n) (k + 1) (ratio n k)
half_fraction n k =
    let e : suc k ≡ k + 1 = omega arith in
    let s = exp-ratio n k in
    rw e at (fraction-at (n +ℤ n) (suc k) (ratio n k) (omega arith) (units-left n k))

pub left_is : (x y : Number) → ¬ (number_lefts x ≡ []) → IsFraction (num_of x -ℤ pos 1) (exp_of x) y
    → number_lefts x ≡ y ∷ []
left_is (whole (pos zero)) y h f = absurd (h refl)
left_is (whole (pos (suc n))) y h f = same (pos (suc n) -ℤ pos 1) (pos n) 0 (whole (pos n)) y (omega (arith, ints))
    (fraction-ratio (pos n) 0) f
left_is (whole (negsuc n)) y h f = absurd (h refl)
left_is (between n k) y h f = same (n +ℤ n +ℤ pos 1 -ℤ pos 1) (n +ℤ n) (k + 1) (ratio n k) y (omega (arith, ints))
    (half_fraction n k) f

pub right_is : (x y : Number) → ¬ (number_rights x ≡ []) → IsFraction (num_of x +ℤ pos 1) (exp_of x) y
    → number_rights x ≡ y ∷ []
right_is (whole (pos n)) y h f = absurd (h refl)
right_is (whole (negsuc n)) y h f = same (negsuc n +ℤ pos 1) (negsuc n +ℤ pos 1) 0 (whole (negsuc n +ℤ pos 1)) y refl
    (fraction-ratio (negsuc n +ℤ pos 1) 0) f
right_is (between n k) y h f = same (n +ℤ n +ℤ pos 1 +ℤ pos 1) ((n +ℤ pos 1) +ℤ (n +ℤ pos 1)) (k + 1)
    (ratio (n +ℤ pos 1) k) y (omega (arith, ints)) (half_fraction (n +ℤ pos 1) k) f

left_in_range : (x y : Number) → InRange x → number_lefts x ≡ y ∷ [] → InRange y
left_in_range x y r e = in_range-lefts x y r (rw e (inl refl))

right_in_range : (x y : Number) → InRange x → number_rights x ≡ y ∷ [] → InRange y
right_in_range x y r e = in_range-rights x y r (rw e (inl refl))

-- ---- from the fraction that was made

fraction_along : (m n : ℤ) (k j : ℕ) (y : Number) → m ≡ n → k ≡ j → IsFraction m k y → IsFraction n j y
fraction_along m n k j y e d f = rw d at (along m n k y e f)

pub left_made : (x y : Number) (m : ℤ) (k : ℕ) → m ≡ num_of x -ℤ pos 1 → k ≡ exp_of x → ¬ (number_lefts x ≡ [])
    → IsFraction m k y → y ∷ [] ≡ number_lefts x
left_made x y m k e d h f = sym (left_is x y h (fraction_along m (num_of x -ℤ pos 1) k (exp_of x) y e d f))

pub no_left_fault : (x y : Number) (m : ℤ) (k : ℕ) → m ≡ num_of x -ℤ pos 1 → k ≡ exp_of x → ¬ (number_lefts x ≡ [])
    → InRange x → IsFraction m k y → ¬ InRange y → ⊥
no_left_fault x y m k e d h r f out = out (left_in_range x y r (sym (left_made x y m k e d h f)))

pub right_made : (x y : Number) (m : ℤ) (k : ℕ) → m ≡ num_of x +ℤ pos 1 → k ≡ exp_of x → ¬ (number_rights x ≡ [])
    → IsFraction m k y → y ∷ [] ≡ number_rights x
right_made x y m k e d h f = sym (right_is x y h (fraction_along m (num_of x +ℤ pos 1) k (exp_of x) y e d f))

pub no_right_fault : (x y : Number) (m : ℤ) (k : ℕ) → m ≡ num_of x +ℤ pos 1 → k ≡ exp_of x → ¬ (number_rights x ≡ [])
    → InRange x → IsFraction m k y → ¬ InRange y → ⊥
no_right_fault x y m k e d h r f out = out (right_in_range x y r (sym (right_made x y m k e d h f)))

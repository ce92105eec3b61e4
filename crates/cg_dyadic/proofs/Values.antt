-- The order of numbers, and a number between two that are apart.
use Rattle.std.proofs.Common.{◌≡◌, refl, ℕ, ◌+◌, ◌-◌, ◌^◌, ◌≤◌, ◌<◌, arith, zero, suc, ap, ◌∙◌, ℤ, pos, negsuc, ◌+ℤ◌, ◌≤ℤ◌, ◌<ℤ◌, ◌⊎◌, inl, inr, unsigned_abs}
use Rattle.std.proofs.lemmas.Int.{ints}
use Rattle.cg_dyadic.specs.Number.{AmongNumbers, InRange, Number, NumberLe, between, exp_of, num_of, number_lefts, number_rights, ratio, whole}
use Rattle.cg_dyadic.specs.Units.{doubled, units}
use Rattle.cg_dyadic.proofs.Integers.{abs_tells, le_or_gt, le_or_lt, to_le_z}
use Rattle.cg_dyadic.proofs.Scale.{cross, doubled-at, doubled-le, exp-ratio, le-units, not_le-units}
use Rattle.cg_dyadic.proofs.Scale.{units-between, units-le, units-left, units-own, units-ratio, units-suc}

-- ---- the order

pub number_le-refl : (x : Number) → NumberLe x x
number_le-refl x = units-le (exp_of x) x x (omega arith) (omega arith) (omega (arith, ints))

pub number_le-trans : (x y z : Number) → NumberLe x y → NumberLe y z → NumberLe x z
number_le-trans x y z p q =
    let s : ℕ = exp_of x + exp_of y + exp_of z in
    let a = le-units s x y (omega arith) (omega arith) p in
    let b = le-units s y z (omega arith) (omega arith) q in
    units-le s x z (omega arith) (omega arith) (omega (arith, ints))

pub number_le-total : (x y : Number) → NumberLe x y ⊎ NumberLe y x
number_le-total x y =
    let s : ℕ = exp_of x + exp_of y in
    elim (le_or_lt (units s x) (units s y)) [
      | inl h ↦ inl (units-le s x y (omega arith) (omega arith) h)
      | inr h ↦ inr (units-le s y x (omega arith) (omega arith) (omega (arith, ints)))
    ]

pub less-le : (x y : Number) → ¬ NumberLe x y → NumberLe y x
less-le x y h = elim (number_le-total y x) [ inl k ↦ k | inr k ↦ absurd (h k) ]

-- a Left option is less, and a Right option greater
pub not_le-left_number : (x y : Number) → AmongNumbers y (number_lefts x) → ¬ NumberLe x y
not_le-left_number (whole (pos zero)) y m h = absurd m
not_le-left_number (whole (pos (suc n))) y (inl e) h =
    let c = le-units 0 (whole (pos (suc n))) (whole (pos n)) (omega arith) (omega arith) (rw e at h) in
    omega (arith, ints)
not_le-left_number (whole (pos (suc n))) y (inr m) h = absurd m
not_le-left_number (whole (negsuc n)) y m h = absurd m
not_le-left_number (between n k) y (inl e) h =
    let r = exp-ratio n k in
    let c = le-units (k + 1) (between n k) (ratio n k) (omega arith) (omega arith) (rw e at h) in
    let o = units-own (between n k) in
    let u = units-ratio n k in
    let t : suc k - exp_of (ratio n k) ≡ k + 1 - exp_of (ratio n k) = omega arith in
    let v = doubled-at (suc k - exp_of (ratio n k)) (k + 1 - exp_of (ratio n k)) (num_of (ratio n k)) t in
    let d = units-suc k (ratio n k) r in
    omega (arith, ints)
not_le-left_number (between n k) y (inr m) h = absurd m

pub not_le-right_number : (x y : Number) → AmongNumbers y (number_rights x) → ¬ NumberLe y x
not_le-right_number (whole (pos n)) y m h = absurd m
not_le-right_number (whole (negsuc n)) y (inl e) h =
    let c = le-units 0 (whole (negsuc n +ℤ pos 1)) (whole (negsuc n)) (omega arith) (omega arith) (rw e at h) in
    omega (arith, ints)
not_le-right_number (whole (negsuc n)) y (inr m) h = absurd m
not_le-right_number (between n k) y (inl e) h =
    let r = exp-ratio (n +ℤ pos 1) k in
    let c = le-units (k + 1) (ratio (n +ℤ pos 1) k) (between n k) (omega arith) (omega arith) (rw e at h) in
    let o = units-own (between n k) in
    let u = units-ratio (n +ℤ pos 1) k in
    let t : suc k - exp_of (ratio (n +ℤ pos 1) k) ≡ k + 1 - exp_of (ratio (n +ℤ pos 1) k) = omega arith in
    let v = doubled-at (suc k - exp_of (ratio (n +ℤ pos 1) k)) (k + 1 - exp_of (ratio (n +ℤ pos 1) k)) (num_of (ratio (n +ℤ pos 1) k)) t in
    let d = units-suc k (ratio (n +ℤ pos 1) k) r in
    omega (arith, ints)
not_le-right_number (between n k) y (inr m) h = absurd m

left_gap : (n : ℤ) (k : ℕ) (y : Number) → exp_of y ≤ suc k → ¬ NumberLe (between n k) y → NumberLe y (ratio n k)
left_gap n k y p h =
    let a = not_le-units (suc k) (between n k) y (omega arith) p h in
    let b = units-between n k in
    let c = units-left n k in
    let r = exp-ratio n k in
    units-le (suc k) y (ratio n k) p (omega arith) (omega (arith, ints))

right_gap : (x : Number) (n : ℤ) (k : ℕ) → exp_of x ≤ suc k → ¬ NumberLe x (between n k) → NumberLe (ratio (n +ℤ pos 1) k) x
right_gap x n k p h =
    let a = not_le-units (suc k) x (between n k) p (omega arith) h in
    let b = units-between n k in
    let c = units-left (n +ℤ pos 1) k in
    let r = exp-ratio (n +ℤ pos 1) k in
    units-le (suc k) (ratio (n +ℤ pos 1) k) x (omega arith) p (omega (arith, ints))

pub record NumberGap (x y : Number) : Type 0 where
  pub way : ((a : Number) × AmongNumbers a (number_lefts x) × NumberLe y a) ⊎ ((b : Number) × AmongNumbers b (number_rights y) × NumberLe b x)

pub whole_lt : (m n : ℤ) → ¬ NumberLe (whole m) (whole n) → n <ℤ m
whole_lt m n h = not_le-units 0 (whole m) (whole n) (omega arith) (omega arith) h

pub whole_le : (m n : ℤ) → m ≤ℤ n → NumberLe (whole m) (whole n)
whole_le m n h = units-le 0 (whole m) (whole n) (omega arith) (omega arith) h

whole_gap : (m n : ℤ) → ¬ NumberLe (whole m) (whole n) → NumberGap (whole m) (whole n)
whole_gap (pos (suc m)) n h = let l = whole_lt (pos (suc m)) n h in
    record { way = inl (whole (pos m), inl refl, whole_le n (pos m) (omega (arith, ints))) }
whole_gap (pos zero) (pos n) h = let l = whole_lt (pos zero) (pos n) h in absurd (omega (arith, ints))
whole_gap (pos zero) (negsuc n) h =
    record { way = inr (whole (negsuc n +ℤ pos 1), inl refl, whole_le (negsuc n +ℤ pos 1) (pos zero) (omega (arith, ints))) }
whole_gap (negsuc m) (pos n) h = let l = whole_lt (negsuc m) (pos n) h in absurd (omega (arith, ints))
whole_gap (negsuc m) (negsuc n) h = let l = whole_lt (negsuc m) (negsuc n) h in
    record { way = inr (whole (negsuc n +ℤ pos 1), inl refl, whole_le (negsuc n +ℤ pos 1) (negsuc m) (omega (arith, ints))) }

-- of two numbers the greater has a Left option that is still at least the other, or the less a Right option that is at most the other
pub number_gap : (x y : Number) → ¬ NumberLe x y → NumberGap x y
number_gap (whole m) (whole n) h = whole_gap m n h
number_gap (between n k) (whole m) h = record { way = inl (ratio n k, inl refl, left_gap n k (whole m) (omega arith) h) }
number_gap (whole m) (between n k) h = record { way = inr (ratio (n +ℤ pos 1) k, inl refl, right_gap (whole m) n k (omega arith) h) }
number_gap (between n k) (between m j) h = elim (le_or_gt j k) [
  | inl p ↦ record { way = inl (ratio n k, inl refl, left_gap n k (between m j) (omega arith) h) }
  | inr p ↦ record { way = inr (ratio (m +ℤ pos 1) j, inl refl, right_gap (between n k) m j (omega arith) h) }
]

-- ---- numbers of one value are the same

same_whole : (m n : ℤ) → m ≤ℤ n → n ≤ℤ m → m ≡ n
same_whole m n p q = omega (arith, ints)

deeper : (n m : ℤ) (k j : ℕ) → j < k → NumberLe (between n k) (between m j) → NumberLe (between m j) (between n k) → ⊥
deeper n m k j h p q =
    let a = le-units (suc k) (between n k) (between m j) (omega arith) (omega arith) p in
    let b = le-units (suc k) (between m j) (between n k) (omega arith) (omega arith) q in
    let c = units-between n k in
    let d = units-suc k (between m j) (omega arith) in
    omega (arith, ints)

between_same : (n m : ℤ) (k j : ℕ) → k ≡ j → NumberLe (between n k) (between m j) → NumberLe (between m j) (between n k) → between n k ≡ between m j
between_same n m k j e p q =
    let a = le-units (suc k) (between n k) (between m k) (omega arith) (omega arith) (rw (← e) at p) in
    let b = le-units (suc k) (between m k) (between n k) (omega arith) (omega arith) (rw (← e) at q) in
    let c = units-between n k in
    let d = units-between m k in
    let f : n ≡ m = omega (arith, ints) in
    cc

pub number_le-same : (x y : Number) → NumberLe x y → NumberLe y x → x ≡ y
number_le-same (whole m) (whole n) p q =
    ap whole (same_whole m n (le-units 0 (whole m) (whole n) (omega arith) (omega arith) p) (le-units 0 (whole n) (whole m) (omega arith) (omega arith) q))
number_le-same (whole m) (between n k) p q =
    let a = le-units (suc k) (whole m) (between n k) (omega arith) (omega arith) p in
    let b = le-units (suc k) (between n k) (whole m) (omega arith) (omega arith) q in
    let c = units-between n k in
    let d = units-suc k (whole m) (omega arith) in
    absurd (omega (arith, ints))
number_le-same (between n k) (whole m) p q =
    let a = le-units (suc k) (whole m) (between n k) (omega arith) (omega arith) q in
    let b = le-units (suc k) (between n k) (whole m) (omega arith) (omega arith) p in
    let c = units-between n k in
    let d = units-suc k (whole m) (omega arith) in
    absurd (omega (arith, ints))
number_le-same (between n k) (between m j) p q = elim (le_or_gt j k) [
  | inl a ↦ elim (le_or_gt k j) [
    | inl b ↦ between_same n m k j (omega arith) p q
    | inr b ↦ absurd (deeper n m k j b p q)
  ]
  | inr a ↦ absurd (deeper m n j k a q p)
]

pub left-le_number : (x y : Number) → AmongNumbers y (number_lefts x) → NumberLe y x
left-le_number x y m = elim (number_le-total y x) [ inl h ↦ h | inr h ↦ absurd (not_le-left_number x y m h) ]

pub right-le_number : (x y : Number) → AmongNumbers y (number_rights x) → NumberLe x y
right-le_number x y m = elim (number_le-total x y) [ inl h ↦ h | inr h ↦ absurd (not_le-right_number x y m h) ]

-- ---- the ends of the range

small_doubled : (d : ℕ) (n : ℤ) → negsuc 18446744073709551614 ≤ℤ n → n ≤ℤ pos 18446744073709551615 →
    (doubled d (negsuc 18446744073709551614) ≤ℤ n) × (n ≤ℤ doubled d (pos 18446744073709551615))
small_doubled zero n h k = (h, k)
small_doubled (suc d) n h k = let (a, b) = small_doubled d n h k in
    let c = doubled-le d (negsuc 18446744073709551614) (negsuc 0) (omega (arith, ints)) in
    let e = doubled-le d (pos 1) (pos 18446744073709551615) (omega (arith, ints)) in
    let f = doubled_sign d in
    (omega (arith, ints), omega (arith, ints))
  where
    doubled_sign : (d : ℕ) → (doubled d (negsuc 0) ≤ℤ pos 0) × (pos 0 ≤ℤ doubled d (pos 1))
    doubled_sign zero = (omega (arith, ints), omega (arith, ints))
    doubled_sign (suc d) = let (a, b) = doubled_sign d in (omega (arith, ints), omega (arith, ints))

small_num : (n : ℤ) → unsigned_abs n < 2 ^ 64 → (negsuc 18446744073709551614 ≤ℤ n) × (n ≤ℤ pos 18446744073709551615)
small_num n h = let a = abs_tells n in (omega (arith, ints), omega (arith, ints))

pub least_le : (x : Number) → InRange x → NumberLe (whole (negsuc 18446744073709551614)) x
least_le x r = let (a, b) = small_num (num_of x) r.small in
    let (c, d) = small_doubled (exp_of x) (num_of x) a b in
    cross (whole (negsuc 18446744073709551614)) x ∙ to_le_z (doubled (exp_of x) (negsuc 18446744073709551614)) (num_of x) c

pub le_greatest : (x : Number) → InRange x → NumberLe x (whole (pos 18446744073709551615))
le_greatest x r = let (a, b) = small_num (num_of x) r.small in
    let (c, d) = small_doubled (exp_of x) (num_of x) a b in
    cross x (whole (pos 18446744073709551615)) ∙ to_le_z (num_of x) (doubled (exp_of x) (pos 18446744073709551615)) d

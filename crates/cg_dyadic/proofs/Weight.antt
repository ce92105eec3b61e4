-- Options of a number weigh less, and options of a number in range are in range.
use Rattle.std.proofs.Common.{◌≡◌, refl, ℕ, ◌+◌, ◌≤◌, ◌<◌, arith, zero, suc, true, false, ap, ℤ, pos, negsuc, ◌+ℤ◌, inl, inr, unsigned_abs}
use Rattle.std.proofs.lemmas.Int.{ints}
use Rattle.std.specs.Prelude.{if◌then◌else◌}
use Rattle.cg_dyadic.specs.Number.{AmongNumbers, InRange, Number, between, half, is_even, num_of, number_lefts, number_rights, ratio, weight, whole}
use Rattle.cg_dyadic.proofs.Integers.{abs_tells, odd_half}
use Rattle.cg_dyadic.proofs.Scale.{exp-ratio}

pub half-weight : (n : ℤ) → unsigned_abs (half n) ≤ unsigned_abs n
half-weight (pos n) = omega arith
half-weight (negsuc n) = omega arith

pub weight-ratio : (n : ℤ) (k : ℕ) → weight (ratio n k) ≤ unsigned_abs n + k
weight-ratio n zero = omega arith
weight-ratio n (suc k) =
    (elim (is_even n) as (λ b. is_even n ≡ b → weight (if b then ratio (half n) k else between (half n) k) ≤ unsigned_abs n + suc k) [
      | true ↦ λ e. let h = half-weight n in let ih = weight-ratio (half n) k in omega arith
      | false ↦ λ e. let o : unsigned_abs (half n +ℤ half n +ℤ pos 1) ≡ unsigned_abs n = ap unsigned_abs (odd_half n e) in omega arith
    ]) refl

left-weight : (n : ℤ) → unsigned_abs n ≤ unsigned_abs (n +ℤ n +ℤ pos 1)
left-weight n = let a = abs_tells n in let b = abs_tells (n +ℤ n +ℤ pos 1) in omega (arith, ints)

right-weight : (n : ℤ) → unsigned_abs (n +ℤ pos 1) ≤ unsigned_abs (n +ℤ n +ℤ pos 1)
right-weight n = let a = abs_tells (n +ℤ pos 1) in let b = abs_tells (n +ℤ n +ℤ pos 1) in omega (arith, ints)

pub weight-lefts : (x y : Number) → AmongNumbers y (number_lefts x) → weight y < weight x
weight-lefts (whole (pos zero)) y h = absurd h
weight-lefts (whole (pos (suc n))) y (inl e) = let s : weight y ≡ n + 0 = ap weight e in omega arith
weight-lefts (whole (pos (suc n))) y (inr m) = absurd m
weight-lefts (whole (negsuc n)) y h = absurd h
weight-lefts (between n k) y (inl e) =
    let s : weight y ≡ weight (ratio n k) = ap weight e in
    let r = weight-ratio n k in
    let l = left-weight n in omega arith
weight-lefts (between n k) y (inr m) = absurd m

pub weight-rights : (x y : Number) → AmongNumbers y (number_rights x) → weight y < weight x
weight-rights (whole (pos n)) y h = absurd h
weight-rights (whole (negsuc n)) y (inl e) = let s : weight y ≡ weight (whole (negsuc n +ℤ pos 1)) = ap weight e in let a = abs_tells (negsuc n +ℤ pos 1) in omega (arith, ints)
weight-rights (whole (negsuc n)) y (inr m) = absurd m
weight-rights (between n k) y (inl e) =
    let s : weight y ≡ weight (ratio (n +ℤ pos 1) k) = ap weight e in
    let r = weight-ratio (n +ℤ pos 1) k in
    let l = right-weight n in omega arith
weight-rights (between n k) y (inr m) = absurd m

-- ---- options of a number in range are in range

pub small-ratio : (n : ℤ) (k : ℕ) → unsigned_abs (num_of (ratio n k)) ≤ unsigned_abs n
small-ratio n zero = omega arith
small-ratio n (suc k) =
    (elim (is_even n) as (λ b. is_even n ≡ b → unsigned_abs (num_of (if b then ratio (half n) k else between (half n) k)) ≤ unsigned_abs n) [
      | true ↦ λ e. let h = half-weight n in let ih = small-ratio (half n) k in omega arith
      | false ↦ λ e. let o : unsigned_abs (half n +ℤ half n +ℤ pos 1) ≡ unsigned_abs n = ap unsigned_abs (odd_half n e) in omega arith
    ]) refl

range_along : (x y : Number) → y ≡ x → InRange x → InRange y
range_along x y e r = rw e r

pub in_range-lefts : (x y : Number) → InRange x → AmongNumbers y (number_lefts x) → InRange y
in_range-lefts (whole (pos zero)) y r h = absurd h
in_range-lefts (whole (pos (suc n))) y r (inl e) = range_along (whole (pos n)) y e (let s = r.small in record { small = omega arith; short = omega arith })
in_range-lefts (whole (pos (suc n))) y r (inr m) = absurd m
in_range-lefts (whole (negsuc n)) y r h = absurd h
in_range-lefts (between n k) y r (inl e) =
    let l = left-weight n in let s = small-ratio n k in let t = exp-ratio n k in let u = r.small in let v = r.short in
    range_along (ratio n k) y e (record { small = omega arith; short = omega arith })
in_range-lefts (between n k) y r (inr m) = absurd m

pub in_range-rights : (x y : Number) → InRange x → AmongNumbers y (number_rights x) → InRange y
in_range-rights (whole (pos n)) y r h = absurd h
in_range-rights (whole (negsuc n)) y r (inl e) =
    let a = abs_tells (negsuc n +ℤ pos 1) in let s = r.small in
    range_along (whole (negsuc n +ℤ pos 1)) y e (record { small = omega (arith, ints); short = omega arith })
in_range-rights (whole (negsuc n)) y r (inr m) = absurd m
in_range-rights (between n k) y r (inl e) =
    let l = right-weight n in let s = small-ratio (n +ℤ pos 1) k in let t = exp-ratio (n +ℤ pos 1) k in let u = r.small in let v = r.short in
    range_along (ratio (n +ℤ pos 1) k) y e (record { small = omega arith; short = omega arith })
in_range-rights (between n k) y r (inr m) = absurd m

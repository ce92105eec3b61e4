-- The number in a gap none of whose options is in it is simpler than the others.
use Rattle.std.proofs.Common.{◌≡◌, refl, ℕ, ◌≤◌, ◌<◌, arith, zero, suc, ℤ, pos, negsuc, ◌+ℤ◌, ◌≤ℤ◌, ◌<ℤ◌, inl, inr, unsigned_abs}
use Rattle.std.proofs.lemmas.Int.{ints}
use Rattle.cg_dyadic.specs.Number.{AmongNumbers, Number, NumberLe, between, exp_of, number_lefts, number_rights, ratio, whole}
use Rattle.cg_dyadic.specs.Simplest.{Simpler}
use Rattle.cg_dyadic.proofs.Integers.{abs_tells, le_or_gt}
use Rattle.cg_dyadic.proofs.Scale.{exp-ratio, not_le-units, units-between, units-left}
use Rattle.cg_dyadic.proofs.Values.{whole_lt}

-- of whole numbers
abs_below : (n m : ℤ) → n <ℤ m → m ≤ℤ pos 0 → unsigned_abs m < unsigned_abs n
abs_below n m h k = let a = abs_tells n in let b = abs_tells m in omega (arith, ints)

abs_above : (n m : ℤ) → m <ℤ n → pos 0 ≤ℤ m → unsigned_abs m < unsigned_abs n
abs_above n m h k = let a = abs_tells n in let b = abs_tells m in omega (arith, ints)

by_exp : (s : ℕ) (x y : Number) → exp_of x ≡ s → ((exp_of y ≤ s) → ⊥) → Simpler x y
by_exp s x y e h = inl (elim (le_or_gt (exp_of y) s) [ inl k ↦ absurd (h k) | inr k ↦ omega arith ])

pub simpler_below : (x y : Number) → ¬ NumberLe x y → ((z : Number) → AmongNumbers z (number_lefts x) → ¬ NumberLe y z) → Simpler x y
simpler_below (between n k) y h f = by_exp (suc k) (between n k) y (omega arith) (λ p.
    let a = not_le-units (suc k) (between n k) y (omega arith) p h in
    let r = exp-ratio n k in
    let b = not_le-units (suc k) y (ratio n k) p (omega arith) (f (ratio n k) (inl refl)) in
    let c = units-between n k in
    let d = units-left n k in
    omega (arith, ints))
simpler_below (whole (pos (suc n))) y h f = by_exp 0 (whole (pos (suc n))) y refl (λ p.
    let a = not_le-units 0 (whole (pos (suc n))) y (omega arith) p h in
    let b = not_le-units 0 y (whole (pos n)) p (omega arith) (f (whole (pos n)) (inl refl)) in
    omega (arith, ints))
simpler_below (whole (pos zero)) (whole m) h f = inr (refl, refl, abs_below m (pos zero) (whole_lt (pos zero) m h) (omega (arith, ints)))
simpler_below (whole (pos zero)) (between m j) h f = inl (omega arith)
simpler_below (whole (negsuc n)) (whole m) h f = inr (refl, refl, abs_below m (negsuc n) (whole_lt (negsuc n) m h) (omega (arith, ints)))
simpler_below (whole (negsuc n)) (between m j) h f = inl (omega arith)

pub simpler_above : (x y : Number) → ¬ NumberLe y x → ((z : Number) → AmongNumbers z (number_rights x) → ¬ NumberLe z y) → Simpler x y
simpler_above (between n k) y h f = by_exp (suc k) (between n k) y (omega arith) (λ p.
    let a = not_le-units (suc k) y (between n k) p (omega arith) h in
    let r = exp-ratio (n +ℤ pos 1) k in
    let b = not_le-units (suc k) (ratio (n +ℤ pos 1) k) y (omega arith) p (f (ratio (n +ℤ pos 1) k) (inl refl)) in
    let c = units-between n k in
    let d = units-left (n +ℤ pos 1) k in
    omega (arith, ints))
simpler_above (whole (negsuc n)) y h f = by_exp 0 (whole (negsuc n)) y refl (λ p.
    let a = not_le-units 0 y (whole (negsuc n)) p (omega arith) h in
    let b = not_le-units 0 (whole (negsuc n +ℤ pos 1)) y (omega arith) p (f (whole (negsuc n +ℤ pos 1)) (inl refl)) in
    omega (arith, ints))
simpler_above (whole (pos n)) (whole m) h f = inr (refl, refl, abs_above m (pos n) (whole_lt m (pos n) h) (omega (arith, ints)))
simpler_above (whole (pos n)) (between m j) h f = inl (omega arith)

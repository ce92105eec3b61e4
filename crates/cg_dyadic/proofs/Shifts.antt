-- Ends of a gap at a scale: what a shift of a word gives.
use Rattle.std.proofs.Common.{◌≡◌, refl, ℕ, ◌+◌, ◌-◌, ◌/◌, ◌^◌, ◌<◌, arith, zero, suc, ap, sym, ◌∙◌, ℤ, pos, negsuc, ◌+ℤ◌, ◌-ℤ◌, ◌≤ℤ◌}
use Rattle.std.proofs.lemmas.Int.{fits_signed_from_abs, ints, to_z-of_z}
use Rattle.std.proofs.lemmas.Nat.{shr-shr, shr_le}
use Rattle.std.specs.Prelude.{Option, Some, None}
use lib.Signed.{shr_z}
use mir.Syntax.{w128}
use mir.Val.{to_z, of_z}
use Rattle.cg_dyadic.specs.Number.{half}
use Rattle.cg_dyadic.specs.Search.{Small, SmallEnd, coarse_high, coarse_low, half_of_high, half_of_low, high_at, low_at}
use Rattle.cg_dyadic.proofs.Integers.{abs_tells, half_floor}

-- ---- shifts and halves

-- a half of a quotient
half_more : (n d : ℕ) → n / 2 ^ d / 2 ≡ n / 2 ^ suc d
half_more n d = let e : suc d ≡ d + 1 = omega arith in shr-shr n d 1 ∙ ap (λ k. n / 2 ^ k) (sym e)

half-shift : (n : ℤ) (d : ℕ) → half (shr_z n (2 ^ d)) ≡ shr_z n (2 ^ suc d)
half-shift (pos n) d = ap pos (half_more n d)
half-shift (negsuc n) d = ap negsuc (half_more n d)

no-shift : (n : ℤ) → shr_z n 1 ≡ n
no-shift (pos n) = let e : n / 1 ≡ n = omega arith in ap pos e
no-shift (negsuc n) = let e : n / 1 ≡ n = omega arith in ap negsuc e

two_more : (n : ℤ) → half (n +ℤ pos 1 +ℤ pos 1) ≡ half n +ℤ pos 1
two_more n = let f = half_floor n in let g = half_floor (n +ℤ pos 1 +ℤ pos 1) in omega (arith, ints)

high-shift : (d : ℕ) (b : ℤ) → coarse_high d (Some b) ≡ Some (shr_z b (2 ^ d))
high-shift zero b = ap Some (sym (no-shift b))
high-shift (suc d) b = ap half_of_high (high-shift d b) ∙ ap Some (half-shift b d)

low-shift : (d : ℕ) (a m : ℤ) → m +ℤ pos 1 ≡ a → coarse_low d (Some a) ≡ Some (shr_z m (2 ^ d) +ℤ pos 1)
low-shift zero a m e = ap Some (sym e ∙ ap (λ z. z +ℤ pos 1) (sym (no-shift m)))
low-shift (suc d) a m e = ap half_of_low (low-shift d a m e) ∙ ap Some (two_more (shr_z m (2 ^ d)) ∙ ap (λ z. z +ℤ pos 1) (half-shift m d))

coarse_none : (d : ℕ) → coarse_low d None ≡ None
coarse_none zero = refl
coarse_none (suc d) = ap half_of_low (coarse_none d)

coarse_none' : (d : ℕ) → coarse_high d None ≡ None
coarse_none' zero = refl
coarse_none' (suc d) = ap half_of_high (coarse_none' d)

-- ---- words

-- from -(k + 1) to k
record Within (k : ℕ) (n : ℤ) : Type 0 where
  from_low : negsuc k ≤ℤ n
  to_high : n ≤ℤ pos k

small-within : (n : ℤ) → Small n → Within 1298074214633706907132624082305024 n
small-within n h = let l = h.from_low in let k = h.to_high in record { from_low = omega (arith, ints); to_high = omega (arith, ints) }

within-shift : (k d : ℕ) (n : ℤ) → Within k n → Within k (shr_z n (2 ^ d))
within-shift k d (pos n) h = let l = h.to_high in let e = shr_le n d in record { from_low = omega (arith, ints); to_high = omega (arith, ints) }
within-shift k d (negsuc n) h = let l = h.from_low in let e = shr_le n d in record { from_low = omega (arith, ints); to_high = omega (arith, ints) }

within-less : (k : ℕ) (n : ℤ) → Within k n → Within (k + 1) (n -ℤ pos 1)
within-less k n h = let l = h.from_low in let t = h.to_high in record { from_low = omega (arith, ints); to_high = omega (arith, ints) }

within-more : (k : ℕ) (n : ℤ) → Within k n → Within (k + 1) (n +ℤ pos 1)
within-more k n h = let l = h.from_low in let t = h.to_high in record { from_low = omega (arith, ints); to_high = omega (arith, ints) }

-- what a word of this integer holds
abbrev held : ℤ → ℤ
held n = to_z w128 (of_z w128 n)

within-held : (k : ℕ) (n : ℤ) → k < 2 ^ 120 → Within k n → held n ≡ n
within-held k n e h =
    let l = h.from_low in let t = h.to_high in let a = abs_tells n in
    to_z-of_z w128 n (fits_signed_from_abs w128 n (omega (arith, ints)))

held-shift : (k d : ℕ) (n : ℤ) → k < 2 ^ 120 → Within k n → held (shr_z (held n) (2 ^ d)) ≡ shr_z n (2 ^ d)
held-shift k d n e h = ap (λ z. held (shr_z z (2 ^ d))) (within-held k n e h) ∙ within-held k (shr_z n (2 ^ d)) e (within-shift k d n h)

-- ---- for the code

pub high_word : (b : Option ℤ) (s : ℕ) (n : ℤ) → b ≡ Some n → SmallEnd b → Some (held (shr_z (held n) (2 ^ (41 - s)))) ≡ high_at s b
high_word b s n e h =
    let w = small-within n (rw e at h) in
    ap Some (held-shift _ (41 - s) n (omega arith) w) ∙ sym (high-shift (41 - s) n) ∙ ap (λ z. high_at s z) (sym e)

pub low_word : (a : Option ℤ) (s : ℕ) (n : ℤ) → a ≡ Some n → SmallEnd a → Some (held (held (shr_z (held (held n -ℤ pos 1)) (2 ^ (41 - s))) +ℤ pos 1)) ≡ low_at s a
low_word a s n e h =
    let w = small-within n (rw e at h) in
    let m : ℤ = n -ℤ pos 1 in
    let v = within-less _ n w in
    let one : m +ℤ pos 1 ≡ n = omega (arith, ints) in
    ap (λ z. Some (held (held (shr_z (held (z -ℤ pos 1)) (2 ^ (41 - s))) +ℤ pos 1))) (within-held _ n (omega arith) w)
    ∙ ap (λ z. Some (held (z +ℤ pos 1))) (held-shift _ (41 - s) m (omega arith) v)
    ∙ ap Some (within-held _ (shr_z m (2 ^ (41 - s)) +ℤ pos 1) (omega arith) (within-more _ (shr_z m (2 ^ (41 - s))) (within-shift _ (41 - s) m v)))
    ∙ sym (low-shift (41 - s) n m one) ∙ ap (λ z. low_at s z) (sym e)

pub high_none : (b : Option ℤ) (s : ℕ) → b ≡ None → None ≡ high_at s b
high_none b s e = sym (coarse_none' (41 - s)) ∙ ap (λ z. high_at s z) (sym e)

pub low_none : (a : Option ℤ) (s : ℕ) → a ≡ None → None ≡ low_at s a
low_none a s e = sym (coarse_none (41 - s)) ∙ ap (λ z. low_at s z) (sym e)

-- Each fraction n / 2 ^ k is one number, ratio n k, and a fraction in lowest terms is its own numerator and exponent.
use Rattle.std.proofs.Common.{◌≡◌, refl, ℕ, zero, suc, ◌+◌, ◌-◌, ◌*◌, ◌%◌, ◌^◌, ◌≤◌, inl, inr, Bool, true}
use Rattle.std.proofs.Common.{false, ℤ, pos, negsuc, ◌+ℤ◌, ◌*ℤ◌, ◌<ℤ◌, unsigned_abs, ap, sym, ◌∙◌, arith}
use Rattle.std.proofs.lemmas.Int.{ints}
use Rattle.std.specs.Prelude.{if◌then◌else◌}
use Rattle.cg_dyadic.specs.Exact.{IsLowest, signed_of}
use Rattle.cg_dyadic.specs.Number.{IsFraction, Number, between, exp_of, half, is_even, num_of, ratio}
use Rattle.cg_dyadic.specs.Units.{doubled, units}
use Rattle.cg_dyadic.proofs.Integers.{even_half}
use Rattle.cg_dyadic.proofs.Scale.{doubled-add, doubled-at, doubled-back, doubled-mul, doubled_twice, exp-ratio, units-le, units-ratio}
use Rattle.cg_dyadic.proofs.Truth.{true_or_false}
use Rattle.cg_dyadic.proofs.Values.{number_le-same}

-- ---- lowest terms

odd_is : (m : ℤ) → unsigned_abs m % 2 ≡ 1 → half m +ℤ half m +ℤ pos 1 ≡ m
odd_is (pos n) h = omega (arith, ints)
odd_is (negsuc n) h = let g : suc n % 2 ≡ 1 = h in omega (arith, ints)

not_even : (m : ℤ) → unsigned_abs m % 2 ≡ 1 → is_even m ≡ false
not_even m h = elim (true_or_false (is_even m)) [
  | inl e ↦ absurd (let f = even_half m e in let o = odd_is m h in omega (arith, ints))
  | inr e ↦ e
]

pub ratio-lowest : (m : ℤ) (e : ℕ) → IsLowest (unsigned_abs m) e → (num_of (ratio m e) ≡ m) × (exp_of (ratio m e) ≡ e)
ratio-lowest m zero h = (refl, refl)
ratio-lowest m (suc e) (inl h) = absurd (omega arith)
ratio-lowest m (suc e) (inr h) =
    let r : ratio m (suc e) ≡ between (half m) e = ap (λ (b : Bool). if b then ratio (half m) e else between (half m) e) (not_even m h) in
    let s : e + 1 ≡ suc e = omega arith in
    (ap num_of r ∙ odd_is m h, ap exp_of r ∙ s)

-- ---- one number for a fraction

pub fraction-units : (n : ℤ) (k s : ℕ) (x : Number) → exp_of x ≤ s → IsFraction n k x → doubled k (units s x) ≡ doubled s n
fraction-units n k s x p h =
    let c : doubled k (num_of x) ≡ doubled (exp_of x) n = doubled-mul k (num_of x) ∙ h.crossed ∙ sym (doubled-mul (exp_of x) n) in
    doubled_twice k (s - exp_of x) (num_of x) ∙ doubled-at (k + (s - exp_of x)) (s - exp_of x + k) (num_of x) (omega arith)
    ∙ sym (doubled_twice (s - exp_of x) k (num_of x)) ∙ ap (doubled (s - exp_of x)) c ∙ doubled_twice (s - exp_of x) (exp_of x) n ∙ doubled-at (s - exp_of x + exp_of x) s n (omega arith)

pub fraction-unique : (n : ℤ) (k : ℕ) (x y : Number) → IsFraction n k x → IsFraction n k y → x ≡ y
fraction-unique n k x y f g =
    let s : ℕ = exp_of x + exp_of y in
    let e = fraction-units n k s x (omega arith) f ∙ sym (fraction-units n k s y (omega arith) g) in
    number_le-same x y
    (units-le s x y (omega arith) (omega arith) (doubled-back k (units s x) (units s y) (omega (arith, ints))))
    (units-le s y x (omega arith) (omega arith) (doubled-back k (units s y) (units s x) (omega (arith, ints))))

pub fraction-at : (n : ℤ) (k : ℕ) (x : Number) → exp_of x ≤ k → units k x ≡ n → IsFraction n k x
fraction-at n k x p e = record {
  crossed =
      sym (doubled-mul k (num_of x)) ∙ doubled-at k (exp_of x + (k - exp_of x)) (num_of x) (omega arith) ∙ sym (doubled_twice (exp_of x) (k - exp_of x) (num_of x))
      ∙ ap (doubled (exp_of x)) e ∙ doubled-mul (exp_of x) n;
}

pub fraction-ratio : (n : ℤ) (k : ℕ) → IsFraction n k (ratio n k)
fraction-ratio n k = fraction-at n k (ratio n k) (exp-ratio n k) (units-ratio n k)

-- the number of twice as many parts of half the size
pub ratio-double : (n : ℤ) (s : ℕ) → ratio (n +ℤ n) (suc s) ≡ ratio n s
ratio-double n s = fraction-unique (n +ℤ n) (suc s) (ratio (n +ℤ n) (suc s)) (ratio n s)
    (fraction-ratio (n +ℤ n) (suc s)) (record {
      crossed =
          let x : ℤ = num_of (ratio n s) in
          let e : ℕ = exp_of (ratio n s) in
          sym (doubled-mul (suc s) x)
          ∙ ap (λ z. z +ℤ z) (doubled-mul s x ∙ (fraction-ratio n s).crossed ∙ sym (doubled-mul e n))
          ∙ sym (doubled-add e n n) ∙ doubled-mul e (n +ℤ n);
    })

-- a number is the fraction of its own terms
pub fraction-own : (x : Number) → IsFraction (num_of x) (exp_of x) x
fraction-own x = record { crossed = refl }

-- ---- signs and sizes

pub abs_signed : (b : Bool) (m : ℕ) → unsigned_abs (signed_of b m) ≡ m
abs_signed false m = refl
abs_signed true zero = refl
abs_signed true (suc m) = refl

signed_times : (b : Bool) (m k : ℕ) → signed_of b m *ℤ pos k ≡ signed_of b (m * k)
signed_times false m k = refl
signed_times true zero k = let e : 0 * k ≡ 0 = omega arith in rw e refl
signed_times true (suc m) k = refl

-- a number is that of its sign and size
pub sign_and_size : (n : ℤ) (b : Bool) → (b ≡ true → n <ℤ pos 0) → (b ≡ false → (n <ℤ pos 0) → ⊥) → n ≡ signed_of b (unsigned_abs n)
sign_and_size (pos n) false h g = refl
sign_and_size (negsuc n) true h g = refl
sign_and_size (pos n) true h g = absurd (let k = h refl in omega (arith, ints))
sign_and_size (negsuc n) false h g = absurd (g refl (omega (arith, ints)))

-- the number of these lowest terms is each fraction of the same sign and the same cross product
pub same_fraction : (b : Bool) (s k m e : ℕ) (x : Number) → m * 2 ^ k ≡ s * 2 ^ e → num_of x ≡ signed_of b m → exp_of x ≡ e → IsFraction (signed_of b s) k x
same_fraction b s k m e x h n f = record {
  crossed =
      ap (λ (z : ℤ). z *ℤ pos (2 ^ k)) n ∙ signed_times b m (2 ^ k) ∙ ap (signed_of b) h ∙ sym (signed_times b s (2 ^ e)) ∙ ap (λ (z : ℕ). signed_of b s *ℤ pos (2 ^ z)) (sym f);
}

-- Numbers in units of a common scale, where their order and sums are those of whole numbers.
use Rattle.std.proofs.Common.{◌≡◌, refl, Bool, ℕ, ◌+◌, ◌-◌, ◌^◌, ◌≤◌, arith, zero, suc, true, false, ap, sym, ◌∙◌, ℤ, pos, ◌+ℤ◌, ◌*ℤ◌, ◌≤ℤ◌, ◌<ℤ◌, inl, inr}
use Rattle.std.proofs.lemmas.Int.{ints}
use Rattle.std.proofs.Math.Nat.{pow-suc}
use Rattle.std.specs.Prelude.{if◌then◌else◌}
use lib.Signed.{le_z}
use Rattle.cg_dyadic.specs.Number.{Number, NumberLe, between, exp_of, half, is_even, num_of, number_le, ratio}
use Rattle.cg_dyadic.specs.Units.{doubled, units}
use Rattle.cg_dyadic.proofs.Integers.{even_half, from_le_z, le_or_lt, odd_half, to_le_z}
use Rattle.cg_dyadic.proofs.Truth.{differ, false-from}

-- ---- doubling

pub doubled-le : (d : ℕ) (m n : ℤ) → m ≤ℤ n → doubled d m ≤ℤ doubled d n
doubled-le zero m n h = h
doubled-le (suc d) m n h = let ih = doubled-le d m n h in omega (arith, ints)

pub doubled-lt : (d : ℕ) (m n : ℤ) → m <ℤ n → doubled d m <ℤ doubled d n
doubled-lt zero m n h = h
doubled-lt (suc d) m n h = let ih = doubled-lt d m n h in omega (arith, ints)

pub doubled-mul : (d : ℕ) (n : ℤ) → doubled d n ≡ n *ℤ pos (2 ^ d)
doubled-mul zero n = omega (arith, ints)
doubled-mul (suc d) n = let ih = doubled-mul d n in rw pow-suc (omega (arith, ints))

pub doubled-back : (d : ℕ) (m n : ℤ) → doubled d m ≤ℤ doubled d n → m ≤ℤ n
doubled-back d m n h = elim (le_or_lt m n) [
  | inl k ↦ k
  | inr k ↦ let c = doubled-lt d n m k in absurd (omega (arith, ints))
]

pub doubled-at : (d e : ℕ) (n : ℤ) → d ≡ e → doubled d n ≡ doubled e n
doubled-at d e n h = ap (λ k. doubled k n) h

pub doubled_twice : (c d : ℕ) (n : ℤ) → doubled c (doubled d n) ≡ doubled (c + d) n
doubled_twice zero d n = doubled-at d (0 + d) n (omega arith)
doubled_twice (suc c) d n =
    let ih = doubled_twice c d n in
    let e : suc c + d ≡ suc (c + d) = omega arith in
    rw e (omega (arith, ints))

pub doubled-add : (d : ℕ) (m n : ℤ) → doubled d (m +ℤ n) ≡ doubled d m +ℤ doubled d n
doubled-add zero m n = refl
doubled-add (suc d) m n = let ih = doubled-add d m n in omega (arith, ints)

-- ---- units

pub units-suc : (s : ℕ) (x : Number) → exp_of x ≤ s → units (suc s) x ≡ units s x +ℤ units s x
units-suc s x h = let e : suc s - exp_of x ≡ suc (s - exp_of x) = omega arith in ap (λ d. doubled d (num_of x)) e

pub units-own : (x : Number) → units (exp_of x) x ≡ num_of x
units-own x = let e : exp_of x - exp_of x ≡ 0 = omega arith in ap (λ d. doubled d (num_of x)) e

-- cross multiplication at any common scale
pub units_up : (s : ℕ) (x : Number) (b : ℕ) → exp_of x ≤ s → doubled s (doubled b (num_of x)) ≡ doubled (exp_of x + b) (units s x)
units_up s x b h =
    doubled_twice s b (num_of x) ∙ doubled-at (s + b) (exp_of x + b + (s - exp_of x)) (num_of x) (omega arith) ∙ sym (doubled_twice (exp_of x + b) (s - exp_of x) (num_of x))

pub units_up' : (s : ℕ) (x : Number) (b : ℕ) → exp_of x ≤ s → doubled s (doubled b (num_of x)) ≡ doubled (b + exp_of x) (units s x)
units_up' s x b h = units_up s x b h ∙ doubled-at (exp_of x + b) (b + exp_of x) (units s x) (omega arith)

pub units_at : (s e : ℕ) (x : Number) → exp_of x ≤ e → e ≤ s → units s x ≡ doubled (s - e) (units e x)
units_at s e x p q = doubled-at (s - exp_of x) (s - e + (e - exp_of x)) (num_of x) (omega arith) ∙ sym (doubled_twice (s - e) (e - exp_of x) (num_of x))

-- ---- the number n / 2 ^ k

-- n / 2 ^ k in lowest terms is n / 2 ^ k
pub exp-ratio : (n : ℤ) (k : ℕ) → exp_of (ratio n k) ≤ k
exp-ratio n zero = omega arith
exp-ratio n (suc k) =
    elim (is_even n) as (λ b. exp_of (if b then ratio (half n) k else between (half n) k) ≤ suc k) [
      | true ↦ let ih = exp-ratio (half n) k in omega arith
      | false ↦ omega arith
    ]

pub units-ratio : (n : ℤ) (k : ℕ) → units k (ratio n k) ≡ n
units-ratio n zero = refl
units-ratio n (suc k) =
    (elim (is_even n) as (λ b. is_even n ≡ b → units (suc k) (if b then ratio (half n) k else between (half n) k) ≡ n) [
      | true ↦ λ e.
          let ih = units-ratio (half n) k in
          let s = units-suc k (ratio (half n) k) (exp-ratio (half n) k) in
          let h = even_half n e in
          omega (arith, ints)
      | false ↦ λ e.
          let z : suc k - (k + 1) ≡ 0 = omega arith in
          doubled-at (suc k - (k + 1)) 0 (half n +ℤ half n +ℤ pos 1) z ∙ odd_half n e
    ]) refl

pub units-left : (n : ℤ) (k : ℕ) → units (suc k) (ratio n k) ≡ n +ℤ n
units-left n k =
    let u = units-ratio n k in
    let d = units-suc k (ratio n k) (exp-ratio n k) in
    omega (arith, ints)

pub units-between : (n : ℤ) (k : ℕ) → units (suc k) (between n k) ≡ n +ℤ n +ℤ pos 1
units-between n k = doubled-at (suc k - (k + 1)) 0 (n +ℤ n +ℤ pos 1) (omega arith)

-- ---- the order

pub cross : (x y : Number) → number_le x y ≡ le_z (doubled (exp_of y) (num_of x)) (doubled (exp_of x) (num_of y))
unfolding number_le
cross x y =
    let e = doubled-mul (exp_of y) (num_of x) in
    let f = doubled-mul (exp_of x) (num_of y) in
    cc

-- numbers over the same denominator have the order of their numerators
pub same-scale : (x y : Number) → exp_of x ≡ exp_of y → le_z (num_of x) (num_of y) ≡ number_le x y
same-scale x y h = by (le_z (num_of x) (num_of y)) refl ∙ sym (cross x y)
  where
    d : ℕ
    d = exp_of y

    both : doubled (exp_of x) (num_of y) ≡ doubled d (num_of y)
    both = doubled-at (exp_of x) d (num_of y) h

    by : (t : Bool) → le_z (num_of x) (num_of y) ≡ t → le_z (num_of x) (num_of y) ≡ le_z (doubled d (num_of x)) (doubled (exp_of x) (num_of y))
    by true e = e ∙ sym (rw both (to_le_z _ _ (doubled-le d _ _ (from_le_z (num_of x) (num_of y) e))))
    by false e = e ∙ sym (rw both (false-from _ (λ k. differ (le_z (num_of x) (num_of y)) (to_le_z _ _ (doubled-back d (num_of x) (num_of y) (from_le_z _ _ k))) e)))

pub le-units : (s : ℕ) (x y : Number) → exp_of x ≤ s → exp_of y ≤ s → NumberLe x y → units s x ≤ℤ units s y
le-units s x y p q h =
    let a = doubled-le s _ _ (from_le_z (doubled (exp_of y) (num_of x)) (doubled (exp_of x) (num_of y)) (sym (cross x y) ∙ h)) in
    doubled-back (exp_of x + exp_of y) _ _ (rw (← units_up s x (exp_of y) p, ← units_up' s y (exp_of x) q) a)

pub units-le : (s : ℕ) (x y : Number) → exp_of x ≤ s → exp_of y ≤ s → units s x ≤ℤ units s y → NumberLe x y
units-le s x y p q h =
    let a = doubled-le (exp_of x + exp_of y) _ _ h in
    cross x y ∙ to_le_z _ _ (doubled-back s (doubled (exp_of y) (num_of x)) (doubled (exp_of x) (num_of y)) (rw (units_up s x (exp_of y) p, units_up' s y (exp_of x) q) a))

pub not_le-units : (s : ℕ) (x y : Number) → exp_of x ≤ s → exp_of y ≤ s → ¬ NumberLe x y → units s y <ℤ units s x
not_le-units s x y p q h = elim (le_or_lt (units s x) (units s y)) [
  | inl k ↦ absurd (h (units-le s x y p q k))
  | inr k ↦ k
]

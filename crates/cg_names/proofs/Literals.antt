-- Number literals: which numbers they are.
use Rattle.std.proofs.Common.{◌≡◌, refl, ap, sym, ◌∙◌, subst, ℕ, zero, suc, ◌-◌, ◌^◌, ◌<◌, ◌≤◌, inl}
use Rattle.std.proofs.Common.{inr, arith, Bool, false, nat_eq, eqb-true, eq-eqb, Option, Some, None}
use Rattle.std.proofs.Common.{ℤ, pos, ◌≤ℤ◌}
use Rattle.std.specs.Prelude.{if◌then◌else◌}
use Rattle.std.proofs.Math.Pow.{pow-lt}
use Rattle.std.proofs.lemmas.Int.{ints}
use Rattle.cg_dyadic.specs.Exact.{IsFromDigits, IsQuotient, signed_of}
use Rattle.cg_dyadic.specs.Number.{InRange, IsFraction, Number, NumberLe, exp_of, is_in_range, num_of, ratio}
use Rattle.cg_dyadic.specs.Units.{doubled, units}
use Rattle.cg_dyadic.proofs.Fractions.{fraction-ratio, fraction-unique}
use Rattle.cg_dyadic.proofs.Powers.{same_power}
use Rattle.cg_dyadic.proofs.Ranges.{in_range-from, in_range-to}
use Rattle.cg_dyadic.proofs.Scale.{doubled-back, doubled-le, doubled-mul, units-le, units-own}
use Rattle.cg_dyadic.proofs.Sums.{doubled-zero}
use Rattle.cg_dyadic.proofs.Truth.{differ, false-from, true_or_false}
use Rattle.cg_names.specs.Meaning.{exponent_within, fraction, kept_in_range, literal, over}
use Rattle.cg_names.specs.Named.{zero_number}

smaller : (k n : ℕ) → k ≤ suc n → ¬ (k ≡ suc n) → k ≤ n
smaller k n l ne = omega arith

-- ---- exponents

power_within : (k n : ℕ) → k ≤ n → exponent_within n (2 ^ k) ≡ Some k
unfolding exponent_within
power_within k zero l =
    let z : k ≡ 0 = omega arith in
    let one : 2 ^ k ≡ 1 = ap (λ (i : ℕ). 2 ^ i) z in
    ap (λ b. if b then Some 0 else None) (eq-eqb (2 ^ k) 1 one) ∙ ap Some (sym z)
power_within k (suc n) l = elim (true_or_false (nat_eq (2 ^ k) (2 ^ suc n))) [
  | inl t ↦ ap (λ b. if b then Some (suc n) else exponent_within n (2 ^ k)) t
      ∙ ap Some (sym (same_power k (suc n) (eqb-true (2 ^ k) (2 ^ suc n) t)))
  | inr f ↦ ap (λ b. if b then Some (suc n) else exponent_within n (2 ^ k)) f ∙ power_within k n (smaller k n l
      (λ e. differ (nat_eq (2 ^ k) (2 ^ suc n)) (eq-eqb (2 ^ k) (2 ^ suc n) (ap (λ (i : ℕ). 2 ^ i) e)) f))
]

within_power : (n den k : ℕ) → exponent_within n den ≡ Some k → den ≡ 2 ^ k
unfolding exponent_within
within_power zero den k e = elim (true_or_false (nat_eq den 1)) [
  | inl t ↦
      let s : Some k ≡ Some 0 = sym e ∙ ap (λ b. if b then Some 0 else None) t in
      let z : k ≡ 0 = cc in
      eqb-true den 1 t ∙ ap (λ (i : ℕ). 2 ^ i) (sym z)
  | inr f ↦
      let s : Some k ≡ None = sym e ∙ ap (λ b. if b then Some 0 else None) f in
      absurd (cc)
]
within_power (suc n) den k e = elim (true_or_false (nat_eq den (2 ^ suc n))) [
  | inl t ↦
      let s : Some k ≡ Some (suc n) = sym e ∙ ap (λ b. if b then Some (suc n) else exponent_within n den) t in
      let z : k ≡ suc n = cc in
      eqb-true den (2 ^ suc n) t ∙ ap (λ (i : ℕ). 2 ^ i) (sym z)
  | inr f ↦ within_power n den k (sym (ap (λ b. if b then Some (suc n) else exponent_within n den) f) ∙ e)
]

below_power : (k : ℕ) → k < 2 ^ k
below_power zero = omega arith
below_power (suc k) =
    let i = below_power k in
    let l : 2 ^ k < 2 ^ suc k = pow-lt (let s : k < suc k = omega arith in s) in
    omega arith

-- ---- fractions

pub quotient-fraction : (below : Bool) (num den : ℕ) (x : Number) → IsQuotient below num den x → fraction below num
    den ≡ Some x
unfolding fraction
quotient-fraction below num den x q =
    let l = below_power q.exp in
    let k : q.exp ≤ den = let p = q.power in omega arith in
    let e : exponent_within den den ≡ Some q.exp =
    ap (exponent_within den) q.power ∙ power_within q.exp den k in
    ap (over (signed_of below num)) e
    ∙ ap Some (fraction-unique (signed_of below num) q.exp (ratio (signed_of below num) q.exp) x
    (fraction-ratio (signed_of below num) q.exp) q.value)

over_some : (n : ℤ) (o : Option ℕ) (x : Number) → over n o ≡ Some x → (k : ℕ) × (o ≡ Some k) × (ratio n k ≡ x)
over_some n None x e = absurd (cc)
over_some n (Some k) x e = (k, refl, cc)

pub fraction-quotient : (below : Bool) (num den : ℕ) (x : Number) → fraction below num den ≡ Some x → IsQuotient below
    num den x
unfolding fraction
fraction-quotient below num den x e =
    let n : ℤ = signed_of below num in
    let (k, o, r) = over_some n (exponent_within den den) x e in
    let P : Number → Type 0 = λ y. IsFraction n k y in
    record { exp = k; power = within_power den den k o; value = subst P r (fraction-ratio n k) }

-- ---- literals in range

kept_some : (o : Option Number) (x : Number) → kept_in_range o ≡ Some x → (o ≡ Some x) × InRange x
kept_some None x e = absurd (cc)
kept_some (Some y) x e = elim (true_or_false (is_in_range y)) [
  | inl t ↦
      let s : Some x ≡ Some y = sym e ∙ ap (λ b. if b then Some y else None) t in
      let same : y ≡ x = cc in
      (sym s, rw (← same) (in_range-from y t))
  | inr f ↦
      let s : Some x ≡ None = sym e ∙ ap (λ b. if b then Some y else None) f in
      absurd (cc)
]

some_kept : (o : Option Number) (x : Number) → o ≡ Some x → InRange x → kept_in_range o ≡ Some x
some_kept o x e r = ap kept_in_range e ∙ ap (λ b. if b then Some x else None) (in_range-to x r)

none_kept : (o : Option Number) → ((x : Number) → o ≡ Some x → ¬ InRange x) → kept_in_range o ≡ None
none_kept None f = refl
none_kept (Some x) f = ap (λ b. if b then Some x else None) (false-from (is_in_range x) (λ t. f x refl (in_range-from x t)))

pub literal-fraction : (below : Bool) (num den : ℕ) (x : Number) → literal below num den ≡ Some x → fraction below num
    den ≡ Some x
unfolding literal
literal-fraction below num den x e = (kept_some (fraction below num den) x e).0

-- what the digits spell is the literal
pub literal-is : (below : Bool) (num den : ℕ) (o : Option Number) → IsFromDigits below num den o → o ≡ literal below
    num den
unfolding literal
literal-is below num den (Some x) h = sym (some_kept (fraction below num den) x
    (quotient-fraction below num den x h.0) h.1)
literal-is below num den None h = sym (none_kept (fraction below num den)
    (λ x e. h x (fraction-quotient below num den x e)))

-- a literal without a minus is at least 0
pub literal_not_negative : (num den : ℕ) (x : Number) → literal false num den ≡ Some x → NumberLe zero_number x
literal_not_negative num den x e =
    let q = fraction-quotient false num den x (literal-fraction false num den x e) in
    let cross : doubled q.exp (num_of x) ≡ doubled (exp_of x) (pos num) =
    doubled-mul q.exp (num_of x) ∙ q.value.crossed ∙ sym (doubled-mul (exp_of x) (pos num)) in
    let up : doubled (exp_of x) (pos 0) ≤ℤ doubled (exp_of x) (pos num) = doubled-le (exp_of x) (pos 0) (pos num)
    (omega (arith, ints)) in
    let nothing = doubled-zero q.exp in
    let none = doubled-zero (exp_of x) in
    let high : doubled q.exp (pos 0) ≤ℤ doubled q.exp (num_of x) = omega (arith, ints) in
    let low : pos 0 ≤ℤ num_of x = doubled-back q.exp (pos 0) (num_of x) high in
    let zero_units : units (exp_of x) zero_number ≡ pos 0 = doubled-zero (exp_of x - 0) in
    let own = units-own x in
    units-le (exp_of x) zero_number x (omega arith) (omega arith) (omega (arith, ints))

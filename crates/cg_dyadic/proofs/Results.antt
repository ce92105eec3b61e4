-- What the calls of arithmetic answer: the exact number, or why there is none in range.
use Rattle.std.proofs.Common.{◌≡◌, refl, ℕ, ◌*◌, ◌^◌, ◌<◌, ◌≤◌, Bool, ℤ, pos, unsigned_abs, ap, sym, ◌∙◌, arith, Err}
use Rattle.std.proofs.lemmas.Int.{ints}
use Rattle.std.specs.Prelude.{Option, Some, None, IfSome, IsNone}
use lib.Signed.{lt_z}
use Rattle.cg_dyadic.specs.declared.fault.RangeFault.{RangeFault}
use Rattle.cg_dyadic.specs.Exact.{IsExact, IsFromDigits, IsLowest, signed_of}
use Rattle.cg_dyadic.specs.Number.{InRange, Number, exp_of, num_of, ratio}
use Rattle.cg_dyadic.proofs.Fractions.{abs_signed, fraction-unique, ratio-lowest, same_fraction, sign_and_size}
use Rattle.cg_dyadic.proofs.Integers.{from_lt_z, not_lt_z}
use Rattle.cg_dyadic.proofs.Powers.{same_power}

lowest_signed : (b : Bool) (m e : ℕ) → IsLowest m e → IsLowest (unsigned_abs (signed_of b m)) e
lowest_signed b m e h = rw (abs_signed b m) h

pub sign_of : (n m : ℤ) (k : ℕ) → m ≡ n → k ≡ unsigned_abs m → n ≡ signed_of (lt_z m (pos 0)) k
sign_of n m k e f = sym e
    ∙ sign_and_size m (lt_z m (pos 0)) (λ h. from_lt_z m (pos 0) h) (λ h l. let g = not_lt_z m (pos 0) h in omega (arith, ints))
    ∙ ap (signed_of (lt_z m (pos 0))) (sym f)

-- lowest terms that are out of range are of a number out of range
pub outside : (b : Bool) (m e : ℕ) (x : Number) → num_of x ≡ signed_of b m → exp_of x ≡ e → ((m < 2 ^ 64) × (e ≤ 40) → ⊥) → ¬ InRange x
outside b m e x n f out r =
    let a : unsigned_abs (num_of x) ≡ m = ap unsigned_abs n ∙ abs_signed b m in
    let s = r.small in let t = r.short in
    out (omega arith, omega arith)

-- the fault that holds these lowest terms
pub fault_holds : (b : Bool) (n : ℤ) (s k m e : ℕ) (f : RangeFault) → n ≡ signed_of b s → m * 2 ^ k ≡ s * 2 ^ e → IsLowest m e → f.num ≡ signed_of b m → f.exp ≡ e
    → ((m < 2 ^ 64) × (e ≤ 40) → ⊥) → IsExact n k (Err f)
fault_holds b n s k m e f sign same low num exp out =
    let (p, q) = ratio-lowest (signed_of b m) e (lowest_signed b m e low) in
    let x : Number = ratio (signed_of b m) e in
    (ratio (signed_of b m) e, rw sign (same_fraction b s k m e (ratio (signed_of b m) e) same p q), record { num = num ∙ sym p; exp = exp ∙ sym q }, outside b m e (ratio (signed_of b m) e) p q out)

pub digits_tell : (b : Bool) (num den k m e : ℕ) (r : Option Number) → den ≡ 2 ^ k → m * 2 ^ k ≡ num * 2 ^ e → IsLowest m e
    → IfSome r (λ x. num_of x ≡ signed_of b m) → IfSome r (λ x. exp_of x ≡ e) → IfSome r (λ x. InRange x) → (IsNone r → (m < 2 ^ 64) × (e ≤ 40) → ⊥) → IsFromDigits b num den r
digits_tell b num den k m e (Some x) power same low n f range out = (record { exp = k; power = power; value = same_fraction b num k m e x same n f }, range)
digits_tell b num den k m e None power same low n f range out = λ x q.
    let (p, r) = ratio-lowest (signed_of b m) e (lowest_signed b m e low) in
    let j : q.exp ≡ k = same_power q.exp k (sym q.power ∙ power) in
    let is : x ≡ ratio (signed_of b m) e = fraction-unique (signed_of b num) k x (ratio (signed_of b m) e) (rw j at q.value) (same_fraction b num k m e (ratio (signed_of b m) e) same p r) in
    outside b m e x (ap num_of is ∙ p) (ap exp_of is ∙ r) (out refl)

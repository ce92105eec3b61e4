-- Numerators in words of 128 bits.
use Rattle.std.proofs.Common.{◌≡◌, refl, ℕ, ◌+◌, ◌*◌, ◌^◌, ◌<◌, ◌≤◌, ℤ, pos, ◌*ℤ◌, unsigned_abs, FitsSigned, ap, sym, subst, ◌∙◌, arith}
use Rattle.std.proofs.lemmas.Int.{unsigned_abs-mul, fits_signed_mul, fits_signed_from_abs, to_z-of_z, ints}
use Rattle.std.proofs.lemmas.Nat.{mul-le, pow_pos}
use Rattle.std.proofs.Math.Pow.{pow_mono}
use lib.Signed.{le_z}
use mir.Syntax.{w128}
use mir.Val.{to_z, of_z}
use Rattle.cg_dyadic.specs.Number.{Number, exp_of, num_of, number_le}
use Rattle.cg_dyadic.proofs.Scale.{same-scale}

pub power_bound : (e : ℕ) → e ≤ 41 → 2 ^ e ≤ 2 ^ 41
power_bound e h = pow_mono h

-- a numerator that goes through a word of 128 bits
held : (n : ℤ) → unsigned_abs n < 2 ^ 64 → to_z w128 (of_z w128 n) ≡ n
held n h = to_z-of_z w128 n (fits_signed_from_abs w128 n (omega arith))

pub product_size : (n : ℤ) (e : ℕ) → unsigned_abs n < 2 ^ 64 → e ≤ 41 → unsigned_abs (n *ℤ pos (2 ^ e)) < 2 ^ 105
product_size n e small h = rw (unsigned_abs-mul n (pos (2 ^ e)))
    (let q : (unsigned_abs n + 1) * 2 ^ e ≤ 2 ^ 64 * 2 ^ 41 = mul-le (unsigned_abs n + 1) (2 ^ e) (2 ^ 64) (2 ^ 41) (omega arith) (power_bound e h) in
    let p : 0 < 2 ^ e = some e in omega arith)
  where
    some : (e : ℕ) → 0 < 2 ^ e
    some e = pow_pos e

pub product_fits : (n : ℤ) (e : ℕ) → unsigned_abs n < 2 ^ 64 → e ≤ 41 → FitsSigned w128 (n *ℤ pos (2 ^ e))
product_fits n e small h = fits_signed_mul w128 n (pos (2 ^ e)) (2 ^ 64) (2 ^ 41) (omega arith) (power_bound e h) (omega arith)

-- a numerator times a power, through words of 128 bits
pub product_through : (n p : ℤ) (e : ℕ) → p ≡ pos (2 ^ e) → unsigned_abs n < 2 ^ 64 → e ≤ 41 → to_z w128 (of_z w128 n) *ℤ to_z w128 (of_z w128 p) ≡ n *ℤ pos (2 ^ e)
product_through n p e power small h =
    let p-is : to_z w128 (of_z w128 p) ≡ pos (2 ^ e) = ap (λ (y : ℤ). to_z w128 (of_z w128 y)) power
    ∙ to_z-of_z w128 (pos (2 ^ e)) (fits_signed_from_abs w128 (pos (2 ^ e)) (let q : 2 ^ e ≤ 2 ^ 41 = power_bound e h in omega arith)) in
    ap (λ (y : ℤ). y *ℤ to_z w128 (of_z w128 p)) (held n small) ∙ ap (λ (y : ℤ). n *ℤ y) p-is

pub through_fits : (n p : ℤ) (e : ℕ) → p ≡ pos (2 ^ e) → unsigned_abs n < 2 ^ 64 → e ≤ 41 → FitsSigned w128 (to_z w128 (of_z w128 n) *ℤ to_z w128 (of_z w128 p))
through_fits n p e power small h = subst (FitsSigned w128) (sym (product_through n p e power small h)) (product_fits n e small h)

pub product_held : (n p : ℤ) (e : ℕ) → p ≡ pos (2 ^ e) → unsigned_abs n < 2 ^ 64 → e ≤ 41
    → to_z w128 (of_z w128 (to_z w128 (of_z w128 n) *ℤ to_z w128 (of_z w128 p))) ≡ n *ℤ pos (2 ^ e)
product_held n p e power small h = to_z-of_z w128 _ (through_fits n p e power small h) ∙ product_through n p e power small h

pub through_128 : (a : ℤ) → unsigned_abs a < 2 ^ 105 → to_z w128 (of_z w128 a) ≡ a
through_128 a p = omega (arith, ints)

-- cross multiplication of what was computed
pub le-through : (x y : Number) (a b : ℤ) (e f : ℕ) → exp_of x ≡ e → exp_of y ≡ f → a ≡ num_of x *ℤ pos (2 ^ f) → b ≡ num_of y *ℤ pos (2 ^ e)
    → unsigned_abs a < 2 ^ 105 → unsigned_abs b < 2 ^ 105 → le_z (to_z w128 (of_z w128 a)) (to_z w128 (of_z w128 b)) ≡ number_le x y
unfolding number_le
le-through x y a b e f p q r s small_a small_b = rw (through_128 a small_a, through_128 b small_b, r, s, p, q) refl

-- numerators alone, over the same denominator
pub le-alike : (x y : Number) (a b : ℤ) (e f : ℕ) → exp_of x ≡ e → exp_of y ≡ f → e ≡ f → num_of x ≡ a → num_of y ≡ b
    → unsigned_abs a < 2 ^ 64 → unsigned_abs b < 2 ^ 64 → le_z (to_z w128 (of_z w128 a)) (to_z w128 (of_z w128 b)) ≡ number_le x y
le-alike x y a b e f p q h r s small_a small_b = rw (held a small_a, held b small_b, ← r, ← s) (same-scale x y (p ∙ h ∙ sym q))

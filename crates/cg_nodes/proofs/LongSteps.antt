-- Numbers put into cells and read from them.
use Rattle.std.proofs.Common.{◌≡◌, ℕ, ◌+◌, ◌-◌, ◌*◌, ◌/◌, ◌%◌, ◌^◌, ◌<◌, ◌≤◌, ◌⊎◌, inl, inr, Bool, true, false, IsTrue, not, ℤ}
use Rattle.std.proofs.Common.{pos, negsuc, ◌+ℤ◌, unsigned_abs, List, [], ◌∷◌, Option, Some, arith, rules, ap, sym, refl, ◌∙◌}
use Rattle.std.proofs.lemmas.Int.{ints}
use Rattle.std.specs.Prelude.{if◌then◌else◌}
use Rattle.cg_dyadic.specs.Number.{InRange, Number, between, exp_of, is_long, is_narrow, num_of, ratio, whole}
use Rattle.cg_dyadic.proofs.Fractions.{fraction-own, fraction-ratio, fraction-unique}
use Rattle.cg_form.specs.Game.{number}
use Rattle.cg_cells.specs.declared.key.KeyParts.TheVariants as key
use Rattle.cg_cells.specs.Layout.{FieldsFit}
use Rattle.cg_cells.proofs.Layouts.{both, both_back, lowest_true, lt_back, lt_true}
use Rattle.cg_nodes.specs.Inverse.{long_back}
use Rattle.cg_nodes.specs.LongKeysLaw.{IsLongFraction, chunks_back, long_written, sign_back}
use Rattle.cg_nodes.specs.Longs.{bits_of, cells_of, chunks_of, is_long_fraction, is_long_written, is_negative, num_in}
use Rattle.cg_nodes.specs.Meant.{Meant, form}
use Rattle.cg_nodes.specs.Spelled.{long_of}

odd_abs : (n : ℤ) → unsigned_abs (n +ℤ n +ℤ pos 1) % 2 ≡ 1
odd_abs (pos n) = omega (arith, ints)
odd_abs (negsuc n) = omega (arith, ints)

-- a number is in lowest terms
pub lowest_own : (x : Number) → (exp_of x ≡ 0) ⊎ (unsigned_abs (num_of x) % 2 ≡ 1)
lowest_own (whole n) = inl refl
lowest_own (between n k) = inr (odd_abs n)

-- and the ratio of its own terms
pub ratio_own : (x : Number) → ratio (num_of x) (exp_of x) ≡ x
ratio_own x = fraction-unique (num_of x) (exp_of x) (ratio (num_of x) (exp_of x)) x (fraction-ratio (num_of x) (exp_of x)) (fraction-own x)

narrow_is : (b : Bool) → not b ≡ false → IsTrue b
narrow_is true e = search rules
narrow_is false e = cc

-- the terms of a narrow number fit its key
pub narrow_fits : (x : Number) → is_long x ≡ false → FieldsFit (key.Number (num_of x) (exp_of x))
narrow_fits x e =
    let (a, b) = both_back _ _ (narrow_is (is_narrow x) e) in
    let t : exp_of x < 32 = lt_back (exp_of x) 32 b in
    (lt_back (unsigned_abs (num_of x)) (2 ^ 52) a, omega arith, lowest_own x)

num_again : (n : ℤ) → unsigned_abs n < 2 ^ 64 → num_in (is_negative n) (bits_of n) ≡ n
num_again (pos n) h = refl
num_again (negsuc n) h = let e : 2 ^ 64 - 1 - (2 ^ 64 - 1 - n) ≡ n = omega arith in ap negsuc e

bits_small : (n : ℤ) → unsigned_abs n < 2 ^ 64 → bits_of n < 2 ^ 64
bits_small (pos n) h = omega arith
bits_small (negsuc n) h = omega arith

module _ (x : Number) (r : InRange x) (long : is_long x ≡ true) where
  fraction_true : IsTrue (is_long_fraction (num_of x) (exp_of x))
  fraction_true =
      let short = r.short in
      both _ _ (both _ _ (both _ _ (lt_true (unsigned_abs (num_of x)) (2 ^ 64) r.small) (lt_true (exp_of x) 41 (omega arith)))
      (lowest_true (exp_of x) _ (lowest_own x))) (ap is_long (ratio_own x) ∙ long)

  num_of_chunks : num_in (is_negative (num_of x)) (bits_of (num_of x) % 2 ^ 32 + 2 ^ 32 * (bits_of (num_of x) / 2 ^ 32)) ≡ num_of x
  num_of_chunks =
      let e : bits_of (num_of x) % 2 ^ 32 + 2 ^ 32 * (bits_of (num_of x) / 2 ^ 32) ≡ bits_of (num_of x) = omega arith in
      ap (num_in (is_negative (num_of x))) e ∙ num_again (num_of x) r.small

  written_true : is_long_written (is_negative (num_of x)) (exp_of x) (bits_of (num_of x) % 2 ^ 32) (bits_of (num_of x) / 2 ^ 32) ≡ true
  written_true =
      let s = bits_small (num_of x) r.small in
      both _ _ (both _ _ (lt_true (bits_of (num_of x) % 2 ^ 32) (2 ^ 32) (omega arith)) (lt_true (bits_of (num_of x) / 2 ^ 32) (2 ^ 32) (omega arith)))
      (rw num_of_chunks fraction_true)

  -- its sign, its exponent and its chunks spell a long number
  pub long_again : (b : Bool) (e : ℕ) (o : Option (List ℕ)) → b ≡ is_negative (num_of x) → e ≡ exp_of x → o ≡ Some (chunks_of (num_of x))
      → long_of b e o ≡ Some (form (number x))
  long_again b e o s t c = rw (s, t, c, written_true) (ap (λ z. Some (form (number z)))
      (ap (λ n. ratio n (exp_of x)) num_of_chunks ∙ ratio_own x))

-- ---- the number of two chunks

-- its numerator and exponent are in lowest terms and in range
pub chunks_lowest : (b : Bool) (e low high : ℕ) (n : ℤ) → n ≡ num_in b (low + 2 ^ 32 * high) → is_long_written b e low high ≡ true → IsLongFraction n e
chunks_lowest b e low high n p written = rw p (long_written b e low high written).fraction

-- ---- what two chunks tell that were read

-- ---- what the parts of a key spell that spell a long number

pub long_only : (b : Bool) (e : ℕ) (cs : List ℕ) (t : Meant) → long_of b e (Some cs) ≡ Some t
    → (x : Number) × (t ≡ form (number x)) × InRange x × (is_long x ≡ true) × (b ≡ is_negative (num_of x)) × (e ≡ exp_of x)
    × (cs ≡ chunks_of (num_of x))
long_only b e cs t h =
    let (low, high, same, there, w) = long_back b e (Some cs) t h in
    let n : num_of (ratio (num_in b (low + 2 ^ 32 * high)) e) ≡ num_in b (low + 2 ^ 32 * high) = w.fraction.num in
    let c : cs ≡ low ∷ high ∷ [] = cc in (
      ratio (num_in b (low + 2 ^ 32 * high)) e,
      same,
      w.fraction.in_range,
      w.fraction.long,
      sym (ap is_negative n ∙ sign_back b (low + 2 ^ 32 * high)),
      sym w.fraction.exp,
      c ∙ sym (ap chunks_of n ∙ chunks_back b low high w.low_fits w.high_fits),
    )

few_if : (b : Bool) → (if b then 3 else 1) ≤ 3
few_if true = omega arith
few_if false = omega arith

-- a number takes at most three cells
pub few_cells : (x : Number) → cells_of x ≤ 3
few_cells x = few_if (is_long x)

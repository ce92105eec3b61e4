-- What follows from the chunks of a long number. These lemmas stand here since the laws of the facts rest on them.
use Rattle.std.proofs.Common.{◌≡◌, ℕ, ◌+◌, ◌*◌, ◌/◌, ◌%◌, ◌^◌, ◌<◌, ◌≤◌, Bool, true, false, IsTrue}
use Rattle.std.proofs.Common.{nat_lt, ℤ, unsigned_abs, [], ◌∷◌, arith, rules, sym, refl, subst}
use Rattle.cg_dyadic.specs.Number.{InRange, Number, exp_of, is_long, num_of, ratio}
use Rattle.cg_dyadic.specs.Exact.{IsLowest}
use Rattle.cg_dyadic.proofs.Fractions.{ratio-lowest}
use Rattle.cg_cells.specs.declared.key.KeyParts.TheVariants as key
use Rattle.cg_cells.specs.Layout.{FieldsFit}
use Rattle.cg_cells.proofs.Layouts.{both_back, lowest_test, lt_back, lt_true}
use Rattle.cg_nodes.specs.Longs.{bits_of, chunks_of, is_long_fraction, is_long_written, is_negative, num_in}

-- n / 2 ^ e is a long number in range and in lowest terms
pub record IsLongFraction (n : ℤ) (e : ℕ) : Type 0 where
  pub num : num_of (ratio n e) ≡ n
  pub exp : exp_of (ratio n e) ≡ e
  pub in_range : InRange (ratio n e)
  pub long : is_long (ratio n e) ≡ true
  pub small : unsigned_abs n < 2 ^ 64
  pub short : e ≤ 40
  pub lowest : IsLowest (unsigned_abs n) e

pub long_fraction : (n : ℤ) (e : ℕ) → IsTrue (is_long_fraction n e) → IsLongFraction n e
long_fraction n e h =
    let (a, l) = both_back _ _ h in
    let (b, o) = both_back _ _ a in
    let (s, t) = both_back _ _ b in
    let small : unsigned_abs n < 2 ^ 64 = lt_back _ (2 ^ 64) s in
    let short : e < 41 = lt_back e 41 t in
    let f : e ≤ 40 = omega arith in
    let (p, q) = ratio-lowest n e (lowest_test e _ o) in
    record {
      num = p;
      exp = q;
      in_range = record {
        small = (let P : ℤ → Type 0 = λ z. unsigned_abs z < 2 ^ 64 in subst P (sym p) small);
        short = (let P : ℕ → Type 0 = λ z. z ≤ 40 in subst P (sym q) f);
      };
      long = l;
      small = small;
      short = f;
      lowest = lowest_test e _ o;
    }

-- what the test of the chunks tells
pub record IsLongWritten (negative : Bool) (exp low high : ℕ) : Type 0 where
  pub low_fits : low < 2 ^ 32
  pub high_fits : high < 2 ^ 32
  pub fraction : IsLongFraction (num_in negative (low + 2 ^ 32 * high)) exp

pub long_written : (negative : Bool) (exp low high : ℕ) → is_long_written negative exp low high ≡ true → IsLongWritten negative exp low high
long_written negative exp low high h =
    let (a, f) = both_back _ _ h in
    let (b, c) = both_back _ _ a in
    record {
      low_fits = lt_back low (2 ^ 32) b;
      high_fits = lt_back high (2 ^ 32) c;
      fraction = long_fraction (num_in negative (low + 2 ^ 32 * high)) exp f;
    }

bits_back : (negative : Bool) (bits : ℕ) → bits < 2 ^ 64 → bits_of (num_in negative bits) ≡ bits
bits_back false bits h = refl
bits_back true bits h = omega arith

pub sign_back : (negative : Bool) (bits : ℕ) → is_negative (num_in negative bits) ≡ negative
sign_back false bits = refl
sign_back true bits = refl

chunks_from : (n low high : ℕ) → n ≡ low + 2 ^ 32 * high → low < 2 ^ 32 → n % 2 ^ 32 ∷ n / 2 ^ 32 ∷ [] ≡ low ∷ high ∷ []
chunks_from n low high e h =
    let a : n % 2 ^ 32 ≡ low = omega arith in
    let b : n / 2 ^ 32 ≡ high = omega arith in
    cc

-- the chunks of a numerator that two chunks write are these
pub chunks_back : (negative : Bool) (low high : ℕ) → low < 2 ^ 32 → high < 2 ^ 32
    → chunks_of (num_in negative (low + 2 ^ 32 * high)) ≡ low ∷ high ∷ []
chunks_back negative low high a b =
    chunks_from (bits_of (num_in negative (low + 2 ^ 32 * high))) low high (bits_back negative (low + 2 ^ 32 * high) (omega arith)) a

narrow_from : (x : Number) (n : ℤ) (e : ℕ) → num_of x ≡ n → exp_of x ≡ e → unsigned_abs n < 2 ^ 52 → e ≤ 31 → is_long x ≡ false
narrow_from x n e p q a b =
    let s : nat_lt (unsigned_abs (num_of x)) (2 ^ 52) ≡ true = lt_true (unsigned_abs (num_of x)) (2 ^ 52) (rw p a) in
    let t : nat_lt (exp_of x) 32 ≡ true = lt_true (exp_of x) 32 (rw q (omega arith)) in
    rw (s, t) refl

-- the number of a key of a narrow one isn't long
pub narrow_key : (n : ℤ) (e : ℕ) → FieldsFit (key.Number n e) → is_long (ratio n e) ≡ false
narrow_key n e f = let (p, q) = ratio-lowest n e f.2 in narrow_from (ratio n e) n e p q f.0 f.1

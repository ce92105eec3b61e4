-- Sums and negatives of numbers, at a common scale.
use Rattle.std.proofs.Common.{◌≡◌, refl, ℕ, zero, suc, ◌+◌, ◌-◌, ◌^◌, ◌≤◌, ◌↔◌, ℤ, pos, neg_ℤ, ◌+ℤ◌, ◌*ℤ◌, ◌≤ℤ◌, ap, sym, ◌∙◌, arith}
use Rattle.std.proofs.lemmas.Int.{ints}
use Rattle.cg_dyadic.specs.Exact.{IsNegative, IsSum, sum_num}
use Rattle.cg_dyadic.specs.Number.{Number, NumberLe, between, exp_of, num_of, ratio, whole}
use Rattle.cg_dyadic.specs.Units.{doubled, units}
use Rattle.cg_dyadic.proofs.Fractions.{fraction-ratio, fraction-units}
use Rattle.cg_dyadic.proofs.Scale.{doubled-add, doubled-back, doubled-mul, le-units, units-le, units_up, units_up'}

-- ---- sums

same_z : (a b : ℤ) → a ≤ℤ b → b ≤ℤ a → a ≡ b
same_z a b p q = omega (arith, ints)

pub doubled-same : (d : ℕ) (m n : ℤ) → doubled d m ≡ doubled d n → m ≡ n
doubled-same d m n e = same_z m n (doubled-back d m n (omega (arith, ints))) (doubled-back d n m (omega (arith, ints)))

-- the numerator of the sum, doubled
sum_num-doubled : (x y : Number) → sum_num x y ≡ doubled (exp_of y) (num_of x) +ℤ doubled (exp_of x) (num_of y)
sum_num-doubled x y = let a = doubled-mul (exp_of y) (num_of x) in let b = doubled-mul (exp_of x) (num_of y) in cc

pub sum-units : (s : ℕ) (x y z : Number) → exp_of x ≤ s → exp_of y ≤ s → exp_of z ≤ s → IsSum x y z → units s z ≡ units s x +ℤ units s y
sum-units s x y z p q r h =
    let up = exp_of x + exp_of y in
    let a = fraction-units (sum_num x y) (exp_of x + exp_of y) s z r h in
    let b = ap (doubled s) (sum_num-doubled x y) ∙ doubled-add s (doubled (exp_of y) (num_of x)) (doubled (exp_of x) (num_of y)) in
    let c = units_up s x (exp_of y) p in
    let d = units_up' s y (exp_of x) q in
    let e = doubled-add (exp_of x + exp_of y) (units s x) (units s y) in
    doubled-same (exp_of x + exp_of y) (units s z) (units s x +ℤ units s y) (a ∙ b ∙ ap (λ m. m +ℤ doubled s (doubled (exp_of x) (num_of y))) c ∙ ap (λ m. doubled (exp_of x + exp_of y) (units s x) +ℤ m) d ∙ sym e)

pub sum-exists : (x y : Number) → (z : Number) × IsSum x y z
sum-exists x y = (ratio (sum_num x y) (exp_of x + exp_of y), fraction-ratio (sum_num x y) (exp_of x + exp_of y))

pub sum-commutes : (x y z : Number) → IsSum x y z → IsSum y x z
sum-commutes x y z h =
    let n : sum_num x y ≡ sum_num y x = omega (arith, ints) in
    let k : exp_of x + exp_of y ≡ exp_of y + exp_of x = omega arith in
    rw n at (rw k at h)

pub sum-order : (x y z a b : Number) → IsSum x z a → IsSum y z b → NumberLe x y ↔ NumberLe a b
sum-order x y z a b h k =
    let s : ℕ = exp_of x + exp_of y + exp_of z + exp_of a + exp_of b in
    let u = sum-units s x z a (omega arith) (omega arith) (omega arith) h in
    let v = sum-units s y z b (omega arith) (omega arith) (omega arith) k in (
      λ p. let l = le-units s x y (omega arith) (omega arith) p in units-le s a b (omega arith) (omega arith) (omega (arith, ints)),
      λ p. let l = le-units s a b (omega arith) (omega arith) p in units-le s x y (omega arith) (omega arith) (omega (arith, ints)),
    )

-- ---- negatives

pub doubled-zero : (d : ℕ) → doubled d (pos 0) ≡ pos 0
doubled-zero zero = refl
doubled-zero (suc d) = let ih = doubled-zero d in omega (arith, ints)

doubled-opposite : (d : ℕ) (m n : ℤ) → m +ℤ n ≡ pos 0 → doubled d m +ℤ doubled d n ≡ pos 0
doubled-opposite d m n e = sym (doubled-add d m n) ∙ ap (doubled d) e ∙ doubled-zero d

opposite : (n : ℤ) → n +ℤ neg_ℤ n ≡ pos 0
opposite n = omega (arith, ints)

negative-nums : (x y : Number) → IsNegative x y → num_of x +ℤ num_of y ≡ pos 0
negative-nums x y h = ap (λ n. num_of x +ℤ n) h.num ∙ opposite (num_of x)

pub negative-units : (s : ℕ) (x y : Number) → IsNegative x y → units s x +ℤ units s y ≡ pos 0
negative-units s x y h =
    ap (λ (k : ℕ). units s x +ℤ doubled (s - k) (num_of y)) h.exp ∙ doubled-opposite (s - exp_of x) (num_of x) (num_of y) (negative-nums x y h)

pub negative-exists : (x : Number) → (y : Number) × IsNegative x y
negative-exists (whole n) = (whole (neg_ℤ n), record { num = refl; exp = refl })
negative-exists (between n k) = (between (neg_ℤ (n +ℤ pos 1)) k, record { num = omega (arith, ints); exp = refl })

pub negative-order : (x y a b : Number) → IsNegative x a → IsNegative y b → NumberLe x y ↔ NumberLe b a
negative-order x y a b h k =
    let s : ℕ = exp_of x + exp_of y + exp_of a + exp_of b in
    let u = negative-units s x a h in
    let v = negative-units s y b k in (
      λ p. let l = le-units s x y (omega arith) (omega arith) p in units-le s b a (omega arith) (omega arith) (omega (arith, ints)),
      λ p. let l = le-units s b a (omega arith) (omega arith) p in units-le s x y (omega arith) (omega arith) (omega (arith, ints)),
    )

pub negative-cancels : (x y : Number) → IsNegative x y → IsSum x y (whole (pos 0))
negative-cancels x y h = record {
  crossed =
      let n : sum_num x y ≡ pos 0 = sum_num-doubled x y ∙ ap (λ (k : ℕ). doubled k (num_of x) +ℤ doubled (exp_of x) (num_of y)) h.exp ∙ doubled-opposite (exp_of x) (num_of x) (num_of y) (negative-nums x y h) in
      let l : pos 0 *ℤ pos (2 ^ (exp_of x + exp_of y)) ≡ pos 0 = sym (doubled-mul (exp_of x + exp_of y) (pos 0)) ∙ doubled-zero (exp_of x + exp_of y) in
      let r : pos 0 *ℤ pos (2 ^ 0) ≡ pos 0 = refl in
      l ∙ sym (ap (λ (m : ℤ). m *ℤ pos (2 ^ 0)) n ∙ r);
}

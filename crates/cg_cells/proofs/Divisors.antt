-- Remainders by a reciprocal. q is the quotient that the reciprocal gives: it is the true one or one less.
use Rattle.std.proofs.Common.{◌≡◌, ℕ, ◌+◌, ◌-◌, ◌*◌, ◌/◌, ◌%◌, ◌^◌, ◌<◌, ◌≤◌, sym, ap, ◌∙◌, subst, arith}
use Rattle.std.proofs.Math.Nat.{le_of_mul-le-mul_right, lt_of_mul-lt-mul_right, mul-le-mul_right, mul-lt-mul_of_pos_right, mul_assoc, mul_comm}
use Rattle.std.proofs.Math.Nat.{mul_right_comm, add-mul, add-mod_right, mod-eq_of_lt, add-mul-mod_self_right, div-mul-le_self, lt-div-mul-add}

-- n * r, r * d and q * w are the products that matter
module _ (n d r q w : ℕ) where
  -- what the quotient takes away is there
  pub takes_less : 0 < w → r * d ≤ w → q * w ≤ n * r → q * d ≤ n
  takes_less positive whole low =
      let a : q * w * d ≤ n * r * d = mul-le-mul_right d low in
      let b : r * d * n ≤ w * n = mul-le-mul_right n whole in
      let e1 : q * w * d ≡ q * d * w = mul_right_comm q w d in
      let e2 : n * r * d ≡ r * d * n = mul_assoc n r d ∙ mul_comm n (r * d) in
      let e3 : w * n ≡ n * w = mul_comm w n in
      le_of_mul-le-mul_right (omega arith) positive

  -- less than two divisors are left
  pub leaves_little : n < w → w ≤ r * d + d → n * r ≤ q * w + w → 0 < d → n < q * d + d + d
  leaves_little most whole high positive =
      let a : n * r * d ≤ (q * w + w) * d = mul-le-mul_right d high in
      let b : w * n ≤ (r * d + d) * n = mul-le-mul_right n whole in
      let c : n * d < w * d = mul-lt-mul_of_pos_right most positive in
      let e1 : (q * w + w) * d ≡ q * d * w + d * w = add-mul (q * w) w d ∙ (ap (λ x. x + w * d) (mul_right_comm q w d) ∙ ap (λ x. q * d * w + x) (mul_comm w d)) in
      let e2 : (r * d + d) * n ≡ n * r * d + n * d = add-mul (r * d) d n ∙ (ap (λ x. x + d * n) (mul_comm (r * d) n ∙ sym (mul_assoc n r d)) ∙ ap (λ x. n * r * d + x) (mul_comm d n)) in
      let e3 : (q * d + d + d) * w ≡ q * d * w + d * w + d * w = add-mul (q * d + d) d w ∙ ap (λ x. x + d * w) (add-mul (q * d) d w) in
      let e4 : w * d ≡ d * w = mul_comm w d in
      let e5 : w * n ≡ n * w = mul_comm w n in
      lt_of_mul-lt-mul_right w (omega arith)

-- a number below the divisor that is left when the divisor was taken away some times is the remainder
pub is_left : (n d q rest : ℕ) → n ≡ rest + q * d → rest < d → rest ≡ n % d
is_left n d q rest e below = sym (ap (λ x. x % d) e ∙ (add-mul-mod_self_right rest q d ∙ mod-eq_of_lt below))

pub is_left_after : (n d q rest : ℕ) → n ≡ rest + q * d + d → rest < d → rest ≡ n % d
is_left_after n d q rest e below = sym (ap (λ x. x % d) e ∙ (add-mod_right (rest + q * d) d ∙ sym (is_left (rest + q * d) d q rest (omega arith) below)))

-- what the reciprocal of a divisor says of a number of 64 bits
pub record Divides (n d q : ℕ) : Type 0 where
  pub low : q * d ≤ n
  pub high : n < q * d + d + d

pub divides : (n d r : ℕ) → n < 2 ^ 64 → 1 ≤ d → r ≡ (2 ^ 64 - 1) / d → Divides n d (n * r / 2 ^ 64)
divides n d r fits positive is =
    let below : r * d ≤ 2 ^ 64 - 1 = subst (λ x. x * d ≤ 2 ^ 64 - 1) (sym is) (div-mul-le_self (2 ^ 64 - 1) d) in
    let above : 2 ^ 64 - 1 < r * d + d = subst (λ x. 2 ^ 64 - 1 < x * d + d) (sym is) (lt-div-mul-add positive) in
    let low : n * r / 2 ^ 64 * 2 ^ 64 ≤ n * r = div-mul-le_self (n * r) (2 ^ 64) in
    let high : n * r < n * r / 2 ^ 64 * 2 ^ 64 + 2 ^ 64 = lt-div-mul-add (omega arith) in
    record {
      low = takes_less n d r (n * r / 2 ^ 64) (2 ^ 64) (omega arith) (omega arith) low;
      high = leaves_little n d r (n * r / 2 ^ 64) (2 ^ 64) (omega arith) (omega arith) (omega arith) positive;
    }

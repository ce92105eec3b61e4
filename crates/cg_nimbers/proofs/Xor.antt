-- The exclusive or of two numbers: no number is one for two different partners, and each lesser number comes from a
-- lesser partner on one side.
use Rattle.std.proofs.Common.{◌≡◌, ap, sym, ◌∙◌, ℕ, zero, suc, ◌+◌, ◌*◌, ◌/◌, ◌%◌, ◌<◌, arith, ◌⊎◌, inl, inr}
use Rattle.std.specs.Prelude.{bit_xor}
use Rattle.std.specs.Int.{bit_at}
use Rattle.cg_dyadic.proofs.Integers.{le_or_gt}
use Rattle.std.proofs.lemmas.Nat.{xor_comm}
use Rattle.std.proofs.lemmas.Nat.Bits.{bit_at-lt, bit_at-suc, bit_at_lowest, bit_at_xor, same_from_bits}

pub xor-low : (a b : ℕ) → bit_xor a b % 2 ≡ (a % 2 + b % 2) % 2
xor-low a b =
    sym (bit_at_lowest (bit_xor a b)) ∙ bit_at_xor a b 0
    ∙ ap (λ z. (z + bit_at b 0) % 2) (bit_at_lowest a) ∙ ap (λ z. (a % 2 + z) % 2) (bit_at_lowest b)

pub xor-half : (a b : ℕ) → bit_xor a b / 2 ≡ bit_xor (a / 2) (b / 2)
xor-half a b = same_from_bits (bit_xor a b / 2) (bit_xor (a / 2) (b / 2)) (λ i.
    sym (bit_at-suc (bit_xor a b) i) ∙ bit_at_xor a b (suc i)
    ∙ ap (λ z. (z + bit_at b (suc i)) % 2) (bit_at-suc a i) ∙ ap (λ z. (bit_at (a / 2) i + z) % 2) (bit_at-suc b i)
    ∙ sym (bit_at_xor (a / 2) (b / 2) i))

pub xor-injective : (a c b : ℕ) → bit_xor a b ≡ bit_xor c b → a ≡ c
xor-injective a c b e = same_from_bits a c (λ i.
    let p = bit_at_xor a b i in
    let q = bit_at_xor c b i in
    let r : bit_at (bit_xor a b) i ≡ bit_at (bit_xor c b) i = ap (λ z. bit_at z i) e in
    let s = bit_at-lt a i in
    let t = bit_at-lt c i in
    let u = bit_at-lt b i in
    omega arith)

same_halves : (m n : ℕ) → m / 2 ≡ n / 2 → m % 2 ≡ n % 2 → m ≡ n
same_halves m n h l = omega arith

-- a lesser partner of b that gives c
pub record Lesser (a b c : ℕ) : Type 0 where
  pub partner : ℕ
  pub lesser : partner < a
  pub gives : bit_xor partner b ≡ c

-- from the halves, with the last bit chosen
from_half : (a b c i e : ℕ) → i < a / 2 → e < 2 → bit_xor i (b / 2) ≡ c / 2 → (e + b % 2) % 2 ≡ c % 2 → Lesser a b c
from_half a b c i e l s h k =
    let x : ℕ = 2 * i + e in
    let xh : x / 2 ≡ i = omega arith in
    let xl : x % 2 ≡ e = omega arith in
    record {
      partner = x;
      lesser = omega arith;
      gives = same_halves (bit_xor x b) c (xor-half x b ∙ ap (λ z. bit_xor z (b / 2)) xh ∙ h)
          (xor-low x b ∙ ap (λ z. (z + b % 2) % 2) xl ∙ k);
    }

-- where only the last bit is lesser
last_bit : (a b c : ℕ) → a % 2 ≡ 1 → b % 2 ≡ 0 → c % 2 ≡ 0 → bit_xor (a / 2) (b / 2) ≡ c / 2 → Lesser a b c
last_bit a b c p q r h =
    let x : ℕ = 2 * (a / 2) in
    let xh : x / 2 ≡ a / 2 = omega arith in
    let xl : x % 2 ≡ 0 = omega arith in
    let low : (0 + b % 2) % 2 ≡ c % 2 = omega arith in
    record {
      partner = x;
      lesser = omega arith;
      gives = same_halves (bit_xor x b) c (xor-half x b ∙ ap (λ z. bit_xor z (b / 2)) xh ∙ h)
          (xor-low x b ∙ ap (λ z. (z + b % 2) % 2) xl ∙ low);
    }

chosen_bit : (b c : ℕ) → (e : ℕ) × (e < 2) × ((e + b % 2) % 2 ≡ c % 2)
chosen_bit b c = ((c + b) % 2, omega arith, omega arith)

-- the lesser number is lesser in its half, or in the last bit alone
data Below (c x : ℕ) : Type 0 where
  by_half : c / 2 < x / 2 → Below c x
  by_last : c / 2 ≡ x / 2 → c % 2 ≡ 0 → x % 2 ≡ 1 → Below c x

below : (c x : ℕ) → c < x → Below c x
below c x l = elim (le_or_gt (x / 2) (c / 2)) [
  | inl n ↦ by_last (omega arith) (omega arith) (omega arith)
  | inr m ↦ by_half m
]

parity : (a : ℕ) → (a % 2 ≡ 0) ⊎ (a % 2 ≡ 1)
parity a = elim (le_or_gt 1 (a % 2)) [ inl o ↦ inr (omega arith) | inr e ↦ inl (omega arith) ]

from_halves : (a b c : ℕ) → Lesser (a / 2) (b / 2) (c / 2) → Lesser a b c
from_halves a b c h = let (e, l, k) = chosen_bit b c in from_half a b c h.partner e h.lesser l h.gives k

not_both_zero : (a b c : ℕ) → a ≡ 0 → b ≡ 0 → c < bit_xor a b → ⊥
not_both_zero a b c p q l =
    let e : bit_xor a b ≡ 0 = ap (λ z. bit_xor z b) p ∙ ap (λ z. bit_xor 0 z) q in omega arith

pub xor-lesser_within : (n a b c : ℕ) → a + b < n → c < bit_xor a b → Lesser a b c ⊎ Lesser b a c
xor-lesser_within zero a b c s l = absurd (omega arith)
xor-lesser_within (suc n) a b c s l =
    let half = xor-half a b in
    let low = xor-low a b in
    elim (below c (bit_xor a b) l) [
      | by_half m ↦ elim (le_or_gt (a + b) 0) [
        | inl z ↦ absurd (not_both_zero a b c (omega arith) (omega arith) l)
        | inr z ↦ elim (xor-lesser_within n (a / 2) (b / 2) (c / 2) (omega arith) (omega arith)) [
          | inl p ↦ inl (from_halves a b c p)
          | inr p ↦ inr (from_halves b a c p)
        ]
      ]
      | by_last m p q ↦ elim (parity a) [
        | inl even ↦ inr (last_bit b a c (omega arith) even p (xor_comm (b / 2) (a / 2) ∙ sym half ∙ sym m))
        | inr odd ↦ inl (last_bit a b c odd (omega arith) p (sym half ∙ sym m))
      ]
    ]

pub xor-lesser : (a b c : ℕ) → c < bit_xor a b → Lesser a b c ⊎ Lesser b a c
xor-lesser a b c l = xor-lesser_within (suc (a + b)) a b c (omega arith) l

-- The first and the last bit of a word that is 1.
use Rattle.std.proofs.Common.{◌≡◌, refl, ℕ, suc, ◌+◌, ◌-◌, ◌*◌, ◌<◌, ◌≤◌, ◌^◌, inl, inr, ap, sym, ◌∙◌, arith, w64}
use Rattle.std.specs.Int.{bit_at}
use Rattle.std.specs.Int.Count.{count_leading_zeros, count_trailing_zeros}
use Rattle.std.proofs.lemmas.Bool.Decides.{leb_tells, nat_tests}
use Rattle.std.proofs.lemmas.Nat.{leading_top}
use Rattle.std.proofs.lemmas.Nat.Bits.{bit_at-trailing_zeros, bit_at_above, bit_at_cat_high, bit_at-lt}

pub last-one : (a : ℕ) → 0 < a → a < 2 ^ 64 → bit_at a (63 - count_leading_zeros 64 a) ≡ 1
last-one a some fits =
    let (j, e, low, high) = leading_top 64 a some fits in
    let at : 63 - count_leading_zeros 64 a ≡ j = omega (arith, e) in
    let double : 2 ^ suc j ≡ 2 * 2 ^ j = omega arith in
    let cat : 1 * 2 ^ j + (a - 2 ^ j) ≡ a = omega (arith, low) in
    let zero : j - j ≡ 0 = omega arith in
    ap (bit_at a) at ∙ ap (λ z. bit_at z j) (sym cat)
    ∙ bit_at_cat_high 1 j (a - 2 ^ j) j (omega (arith, low, high, double)) (omega arith) ∙ ap (bit_at 1) zero ∙ refl

pub last-last : (a : ℕ) → 0 < a → a < 2 ^ 64 → (k : ℕ) → bit_at a k ≡ 1 → k ≤ 63 - count_leading_zeros 64 a
last-last a some fits k t =
    let (j, e, low, high) = leading_top 64 a some fits in
    elim (leb_tells (suc j) k) [
      | inl h ↦ let none = bit_at_above a (suc j) k high h.1 in absurd (omega (arith, none, t))
      | inr h ↦ let below = h.1 in omega (arith, e, below)
    ]

pub last-past : (a : ℕ) → 0 < a → a < 2 ^ 64 → (k : ℕ) → 63 - count_leading_zeros 64 a < k → bit_at a k ≡ 0
last-past a some fits k late = grind (arith, nat_tests, bit_at-lt, last-last)

pub first-one : (a : ℕ) → 0 < a → a < 2 ^ 64 → bit_at a (count_trailing_zeros 64 a) ≡ 1
first-one a some fits = (bit_at-trailing_zeros w64 a some fits).1

pub first-first : (a : ℕ) → 0 < a → a < 2 ^ 64 → (k : ℕ) → bit_at a k ≡ 1 → count_trailing_zeros 64 a ≤ k
first-first a some fits k t = elim (leb_tells (count_trailing_zeros 64 a) k) [
  | inl h ↦ h.1
  | inr h ↦ let none = (bit_at-trailing_zeros w64 a some fits).2 k h.1 in absurd (omega (arith, none, t))
]

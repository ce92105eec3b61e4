-- Powers of two, and both terms of a fraction divided by two.
use Rattle.std.proofs.Common.{◌≡◌, ℕ, suc, ◌-◌, ◌*◌, ◌/◌, ◌%◌, ◌^◌, ◌<◌, ◌≤◌, inl, inr, ap, sym, ◌∙◌, arith}
use Rattle.std.proofs.Math.Nat.{pow-suc}
use Rattle.std.proofs.Math.Pow.{pow_mono}
use Rattle.std.proofs.lemmas.Nat.{pow_below}
use Rattle.std.proofs.lemmas.Bool.{cases_order}

pub pow_down : (e : ℕ) → 0 < e → 2 ^ e ≡ 2 * 2 ^ (e - 1)
pow_down e h =
    let k : e ≡ suc (e - 1) = omega arith in
    let p : 2 ^ suc (e - 1) ≡ 2 ^ (e - 1) * 2 = pow-suc 2 (e - 1) in
    ap (λ n. 2 ^ n) k ∙ omega arith

-- half the size over half the denominator
pub halve : (s S E e : ℕ) → s * 2 ^ E ≡ S * 2 ^ e → 0 < e → s % 2 ≡ 0 → (s / 2) * 2 ^ E ≡ S * 2 ^ (e - 1)
halve s S E e same up even =
    let half : s ≡ 2 * (s / 2) = omega arith in
    let p : 2 ^ e ≡ 2 * 2 ^ (e - 1) = pow_down e up in
    let q : (2 * (s / 2)) * 2 ^ E ≡ S * (2 * 2 ^ (e - 1)) = ap (λ n. n * 2 ^ E) (sym half) ∙ same ∙ ap (λ n. S * n) p in
    omega arith

-- 2 ^ j is less than twice 2 ^ k, and at least it, for j = k alone
pub power_between : (j k : ℕ) → 2 ^ k ≤ 2 ^ j → 2 ^ j < 2 * 2 ^ k → j ≡ k
power_between j k p q =
    elim (cases_order j k) [
      | inl e ↦ e
      | inr d ↦ elim d [
        | inl lt ↦ absurd (let b = pow_below j k lt in omega arith)
        | inr gt ↦ absurd (let s : 2 ^ suc k ≡ 2 ^ k * 2 = pow-suc 2 k in let m : 2 ^ suc k ≤ 2 ^ j = pow_mono gt in omega arith)
      ]
    ]

pub same_power : (i j : ℕ) → 2 ^ i ≡ 2 ^ j → i ≡ j
same_power i j e = elim (cases_order i j) [
  | inl p ↦ p
  | inr p ↦ elim p [ inl lt ↦ absurd (omega (arith, pow_below i j lt)) | inr gt ↦ absurd (omega (arith, pow_below j i gt)) ]
]

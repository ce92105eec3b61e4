-- Numbers in their order.
use Rattle.std.proofs.lemmas.Bool.Decides.{nat_tests}
use Rattle.std.proofs.Common.{◌≡◌, ◌≢◌, ◌⊎◌, inl, inr, ℕ, zero, suc, ◌+◌, ◌<◌, ◌≤◌, [], ◌∷◌, ◌++◌, ap, sym, ◌∙◌, arith, length, refl}
use Rattle.std.proofs.lemmas.Bool.{eqb-true, eq-eqb}
use Rattle.std.proofs.Math.Nat.{eq-or-lt_of_le}
use Rattle.cg_dyadic.proofs.Truth.{true-or-not}
use Rattle.cg_moves.specs.Rising.{counted}
use Rattle.cg_moves.specs.Rules.{In}

pub same-or-not : (k j : ℕ) → (k ≡ j) ⊎ (k ≢ j)
same-or-not k j = grind (arith, nat_tests, true-or-not, eqb-true, eq-eqb)

pub in_counted : (i n k : ℕ) → i ≤ k → k < i + n → In k (counted i n)
in_counted i zero k low high = absurd (omega arith)
in_counted i (suc n) k low high = elim (eq-or-lt_of_le low) [
  | inl e ↦ inl (sym e)
  | inr h ↦ inr (in_counted (suc i) n k h (omega arith))
]

pub counted-below : (i n k : ℕ) → In k (counted i n) → k < i + n
counted-below i zero k m = absurd m
counted-below i (suc n) k (inl e) = omega (arith, e)
counted-below i (suc n) k (inr m) = let h = counted-below (suc i) n k m in omega arith

counted-last : (i n : ℕ) → counted i (suc n) ≡ counted i n ++ ((i + n) ∷ [])
counted-last i zero = let e : i ≡ i + 0 = omega arith in ap (λ z. z ∷ []) e
counted-last i (suc n) = grind (arith, nat_tests, counted-last (suc i) n)

pub counted-next : (n : ℕ) → counted 0 (suc n) ≡ counted 0 n ++ (n ∷ [])
counted-next n = let e : 0 + n ≡ n = omega arith in counted-last 0 n ∙ ap (λ z. counted 0 n ++ (z ∷ [])) e

pub counted-from : (i n k : ℕ) → In k (counted i n) → i ≤ k
counted-from i zero k m = absurd m
counted-from i (suc n) k (inl e) = omega (arith, e)
counted-from i (suc n) k (inr m) = let h = counted-from (suc i) n k m in omega arith

pub counted-length : (i n : ℕ) → length (counted i n) ≡ n
counted-length i zero = refl
counted-length i (suc n) = ap suc (counted-length (suc i) n)

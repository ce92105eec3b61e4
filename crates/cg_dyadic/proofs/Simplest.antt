-- A number that passes a convex test while none of its options does is the simplest that passes.
use Rattle.std.proofs.Common.{◌≡◌, refl, ℕ, ◌<◌, arith, zero, suc, Bool, false, IsTrue, ap, ◌∙◌, ◌⊎◌, inl, inr, List, [], ◌∷◌}
use Rattle.cg_dyadic.specs.Number.{AmongNumbers, InRange, Number, NumberLe, number_le, number_lefts, number_rights, weight}
use Rattle.cg_dyadic.specs.Simplest.{NoOptionPasses, SimplestFor}
use Rattle.cg_dyadic.proofs.Simpler.{simpler_above, simpler_below}
use Rattle.cg_dyadic.proofs.Truth.{differ, false-from, true-or-not}
use Rattle.cg_dyadic.proofs.Values.{left-le_number, number_gap, number_le-same, right-le_number}
use Rattle.cg_dyadic.proofs.Weight.{in_range-lefts, in_range-rights, weight-lefts, weight-rights}

pub record Convex (test : Number → Bool) : Type 0 where
  pub between : (x y z : Number) → IsTrue (test x) → IsTrue (test z) → NumberLe x y → NumberLe y z → IsTrue (test y)

pub simplest_same : (test : Number → Bool) (x y : Number) → Convex test → NoOptionPasses test x → NoOptionPasses test y → x ≡ y
simplest_same test x y v s t = elim (true-or-not (number_le x y)) [
  | inl a ↦ elim (true-or-not (number_le y x)) [
    | inl b ↦ number_le-same x y a b
    | inr b ↦ absurd (apart y x b t s)
  ]
  | inr a ↦ absurd (apart x y a s t)
]
  where
    apart : (x y : Number) → ¬ NumberLe x y → NoOptionPasses test x → NoOptionPasses test y → ⊥
    apart x y h s t = elim ((number_gap x y h).way) [
      | inl w ↦ differ (test w.0) (v.between y w.0 x t.passes s.passes w.2 (left-le_number x w.0 w.1)) (s.no_left w.0 w.1)
      | inr w ↦ differ (test w.0) (v.between y w.0 x t.passes s.passes (right-le_number y w.0 w.1) w.2) (t.no_right w.0 w.1)
    ]

some_passes : (test : Number → Bool) (xs : List Number) → ((y : Number) × AmongNumbers y xs × IsTrue (test y)) ⊎ ((y : Number) → AmongNumbers y xs → test y ≡ false)
some_passes test [] = inr (λ y m. absurd m)
some_passes test (x ∷ xs) = elim (true-or-not (test x)) [
  | inl t ↦ inl (x, inl refl, t)
  | inr n ↦ elim (some_passes test xs) [
    | inl w ↦ inl (w.0, inr w.1, w.2)
    | inr f ↦ inr (λ y m. elim m [ inl e ↦ ap test e ∙ false-from (test x) n | inr k ↦ f y k ])
  ]
]

pub simplest_within : (n : ℕ) (test : Number → Bool) (x : Number) → weight x < n → InRange x → IsTrue (test x) → (y : Number) × NoOptionPasses test y × InRange y
simplest_within zero test x w r t = absurd (omega arith)
simplest_within (suc n) test x w r t = elim (some_passes test (number_lefts x)) [
  | inl k ↦ let s = weight-lefts x k.0 k.1 in simplest_within n test k.0 (omega arith) (in_range-lefts x k.0 r k.1) k.2
  | inr l ↦ elim (some_passes test (number_rights x)) [
    | inl k ↦ let s = weight-rights x k.0 k.1 in simplest_within n test k.0 (omega arith) (in_range-rights x k.0 r k.1) k.2
    | inr f ↦ (x, record { passes = t; no_left = l; no_right = f }, r)
  ]
]

-- if the simplest number is out of range, every number is
pub outside_none : (test : Number → Bool) (x : Number) → Convex test → NoOptionPasses test x → ¬ InRange x → (y : Number) → InRange y → test y ≡ false
outside_none test x v s n y r = false-from (test y) (λ t.
    let (z, k, i) = simplest_within (suc (weight y)) test y (omega arith) r t in
    n (rw (simplest_same test z x v k s) at i))

pub simplest_for : (test : Number → Bool) (x : Number) → Convex test → NoOptionPasses test x → SimplestFor test x
simplest_for test x v s = record {
  passes = s.passes;
  simplest = λ y t. elim (true-or-not (number_le x y)) [
    | inl p ↦ elim (true-or-not (number_le y x)) [
      | inl q ↦ inl (number_le-same x y p q)
      | inr q ↦ inr (simpler_above x y q (λ z m k. differ (test z) (v.between x z y s.passes t (right-le_number x z m) k) (s.no_right z m)))
    ]
    | inr p ↦ inr (simpler_below x y p (λ z m k. differ (test z) (v.between y z x t s.passes k (left-le_number x z m)) (s.no_left z m)))
  ];
}

-- The search for the least number that a list hasn't: it is at most the length.
use Rattle.std.proofs.Common.{◌≡◌, refl, ap, sym, ℕ, suc, ◌+◌, ◌<◌, ◌≤◌, arith, ◌⊎◌, inl, inr, List, [], ◌∷◌, length, Bool, true, false, ◌||◌, ◌==◌}
use Rattle.std.proofs.lemmas.Bool.Decides.{nat_tests}
use Rattle.cg_dyadic.proofs.Truth.{true_or_false}
use Rattle.cg_dyadic.proofs.Integers.{le_or_gt}
use Rattle.cg_octal.specs.Found.{is_listed}
use Rattle.cg_octal.specs.Mex.{IsLeastMissing, Listed}

abbrev one_if : {A B : Type 0} → A ⊎ B → ℕ
one_if (inl a) = 1
one_if (inr b) = 0

-- how many entries are at least k
abbrev pub at_least : ℕ → List ℕ → ℕ
at_least k [] = 0
at_least k (i ∷ is) = one_if (le_or_gt k i) + at_least k is

-- each lesser number is in the list, and there is room for the others
pub record Searched (list : List ℕ) (k : ℕ) : Type 0 where
  pub lesser : (i : ℕ) → i < k → Listed i list
  pub room : k + at_least k list ≤ length list

pub searched_none : (list : List ℕ) → Searched list 0
searched_none list = record { lesser = λ i l. absurd (omega arith); room = all list }
  where
    all : (list : List ℕ) → 0 + at_least 0 list ≤ length list
    all [] = omega arith
    all (i ∷ is) = let r = all is in elim (le_or_gt 0 i) as (λ o. 0 + (one_if o + at_least 0 is) ≤ length (i ∷ is)) [
      | inl l ↦ omega arith
      | inr g ↦ omega arith
    ]

-- one entry less where the bound is raised past it
fewer : (k : ℕ) (list : List ℕ) → at_least (suc k) list ≤ at_least k list
fewer k [] = omega arith
fewer k (i ∷ is) = let r = fewer k is in by (le_or_gt (suc k) i) (le_or_gt k i) r
  where
    by : (o : (suc k ≤ i) ⊎ (i < suc k)) (p : (k ≤ i) ⊎ (i < k)) → at_least (suc k) is ≤ at_least k is
        → one_if o + at_least (suc k) is ≤ one_if p + at_least k is
    by (inl a) (inl b) r = omega arith
    by (inl a) (inr b) r = absurd (omega arith)
    by (inr a) (inl b) r = omega arith
    by (inr a) (inr b) r = omega arith

one_fewer : (k : ℕ) (list : List ℕ) → Listed k list → at_least (suc k) list + 1 ≤ at_least k list
one_fewer k [] l = absurd l
one_fewer k (i ∷ is) (inl e) = let r = fewer k is in by (le_or_gt (suc k) i) (le_or_gt k i) r
  where
    by : (o : (suc k ≤ i) ⊎ (i < suc k)) (p : (k ≤ i) ⊎ (i < k)) → at_least (suc k) is ≤ at_least k is
        → one_if o + at_least (suc k) is + 1 ≤ one_if p + at_least k is
    by (inl a) p r = absurd (omega arith)
    by (inr a) (inl b) r = omega arith
    by (inr a) (inr b) r = absurd (omega arith)
one_fewer k (i ∷ is) (inr l) = let r = one_fewer k is l in by (le_or_gt (suc k) i) (le_or_gt k i) r
  where
    by : (o : (suc k ≤ i) ⊎ (i < suc k)) (p : (k ≤ i) ⊎ (i < k)) → at_least (suc k) is + 1 ≤ at_least k is
        → one_if o + at_least (suc k) is + 1 ≤ one_if p + at_least k is
    by (inl a) (inl b) r = omega arith
    by (inl a) (inr b) r = absurd (omega arith)
    by (inr a) (inl b) r = omega arith
    by (inr a) (inr b) r = omega arith

pub searched_more : (list : List ℕ) (k : ℕ) → Searched list k → Listed k list → Searched list (k + 1)
searched_more list k s l =
    let r = s.room in
    let n = one_fewer k list l in
    let same : at_least (k + 1) list ≡ at_least (suc k) list = ap (λ z. at_least z list) (omega arith) in
    record {
      lesser = λ i m. elim (le_or_gt k i) [
        | inl g ↦ let e : k ≡ i = omega arith in rw e at l
        | inr g ↦ s.lesser i g
      ];
      room = omega arith;
    }

pub searched_room : (list : List ℕ) (k : ℕ) → Searched list k → Listed k list → k < length list
searched_room list k s l = let r = s.room in let n = one_fewer k list l in omega arith

pub searched_all : (list : List ℕ) (k : ℕ) → Searched list k → ¬ Listed k list → IsLeastMissing list k
searched_all list k s n = record { missing = n; least = s.lesser }

-- ---- the test

or_right : (b c : Bool) → b ≡ false → (b || c) ≡ true → c ≡ true
or_right true c f e = absurd (cc)
or_right false c f e = e

or_none : (b c : Bool) → (b || c) ≡ false → (b ≡ false) × (c ≡ false)
or_none true c e = absurd (cc)
or_none false c e = (refl, e)

pub is_listed-true : (ks : List ℕ) (i : ℕ) → is_listed ks i ≡ true → Listed i ks
is_listed-true [] i e = absurd (cc)
is_listed-true (k ∷ ks) i e = elim (true_or_false (k == i)) [
  | inl t ↦ let same : k ≡ i = grind (arith, nat_tests) in inl (sym same)
  | inr f ↦ inr (is_listed-true ks i (or_right (k == i) (is_listed ks i) f e))
]

pub is_listed-false : (ks : List ℕ) (i : ℕ) → is_listed ks i ≡ false → ¬ Listed i ks
is_listed-false [] i e l = absurd l
is_listed-false (k ∷ ks) i e (inl s) =
    let f : (k == i) ≡ false = (or_none (k == i) (is_listed ks i) e).0 in
    absurd (grind (arith, nat_tests))
is_listed-false (k ∷ ks) i e (inr l) = is_listed-false ks i ((or_none (k == i) (is_listed ks i) e).1) l

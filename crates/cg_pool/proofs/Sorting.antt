-- Answers sorted by their numbers, where each number below a bound stands once: the n-th has the number n.
use Rattle.std.proofs.Common.{◌≡◌, ◌≢◌, ℕ, zero, suc, ◌+◌, ◌-◌, ◌<◌, ◌≤◌, List, [], ◌∷◌, map, length, fold, Some, refl, sym, ap, ◌∙◌, subst, arith}
use Rattle.std.specs.Prelude.{if◌then◌else◌, nat_lt, ◌==◌, slice_get, slice_index_or, Contains, IsPermutation}
use Rattle.std.specs.List.Sorted.{IsNonDecreasingBy}
use Rattle.std.proofs.lemmas.Bool.Decides.{nat_tests}
use Rattle.std.proofs.lemmas.List.Sorted.{sum_by-IsPermutation, Contains-permutation, IsPermutation-sym}
use mathlib.Core.Logic.{dite}
use native.Mathlib.Decide.{ℕ_discrete, dec_lt}
use Rattle.cg_cells.specs.Table.{times}
use Rattle.cg_cells.proofs.Tickets.{times_head}
use Rattle.cg_cells.proofs.Levels.{same_Some, None_not}
use Rattle.cg_pool.specs.Answers.{numbers, AreOrdered}

-- 1 for a number from lo on and below hi, and 0 for any other
abbrev inside : ℕ → ℕ → ℕ → ℕ
inside lo hi n = if nat_lt n lo then 0 else (if nat_lt n hi then 1 else 0)

inside_is : (lo hi n : ℕ) → 1 ≤ inside lo hi n → (lo ≤ n) × (n < hi)
inside_is lo hi n h = (grind (arith, nat_tests), grind (arith, nat_tests))

inside_one : (lo hi n : ℕ) → lo ≤ n → n < hi → 1 ≤ inside lo hi n
inside_one lo hi n a b = grind (arith, nat_tests)

inside_next : (lo hi n t x : ℕ) → x ≡ lo → lo < hi → (if x == n then 1 else 0) + t ≡ inside lo hi n → t ≡ inside (lo + 1) hi n
inside_next lo hi n t x is low h = grind (arith, nat_tests)

not_there : (x y : ℕ) → x ≢ y → (if x == y then 1 else 0) ≤ 0
not_there x y far = grind (arith, nat_tests)

none_in : (lo hi : ℕ) → ((n : ℕ) → times n [] ≡ inside lo hi n) → hi - lo ≡ 0
none_in lo hi h = dite (dec_lt lo hi)
    (λ lt. let a = inside_one lo hi lo (omega arith) lt in let b : 0 ≡ inside lo hi lo = h lo in absurd (omega arith))
    (λ ge. omega arith)

-- in a permutation each number stands as often
module _ {A : Type 0} (number : A → ℕ) where
  summed : (n c : ℕ) (xs : List A) → fold (λ s (a : A). s + (if number a == n then 1 else 0)) c xs ≡ c + times n (map number xs)
  summed n c [] = omega arith
  summed n c (x ∷ xs) = let p = summed n (c + (if number x == n then 1 else 0)) xs in omega arith

  pub times_permuted : (n : ℕ) (xs ys : List A) → IsPermutation xs ys → times n (map number ys) ≡ times n (map number xs)
  times_permuted n xs ys P =
      let f : A → ℕ = λ a. if number a == n then 1 else 0 in
      let a = sum_by-IsPermutation f xs ys P in
      let b = summed n 0 xs in
      let c = summed n 0 ys in
      omega arith

module _ {A : Type 0} where
  found : (xs : List (ℕ × A)) (y : ℕ) → 1 ≤ times y (numbers xs) → (k : ℕ) × (k < length xs) × ((d : ℕ × A) → (slice_index_or xs k d).0 ≡ y)
  found [] y h = absurd (omega arith)
  found (x ∷ xs) y h = dite (ℕ_discrete x.0 y)
      (λ is. (0, omega arith, λ d. is))
      (λ far. let n = not_there x.0 y far in let r = found xs y (omega arith) in (suc r.0, let lt = r.1 in omega arith, λ d. r.2 d))

  in_order : (xs : List (ℕ × A)) (lo hi : ℕ) → IsNonDecreasingBy (λ (a : ℕ × A). a.0) xs → ((n : ℕ) → times n (numbers xs) ≡ inside lo hi n)
      → (length xs ≡ hi - lo) × ((k : ℕ) (a : ℕ × A) → slice_get xs k ≡ Some a → a.0 ≡ lo + k)
  in_order [] lo hi S h = (sym (none_in lo hi h), λ k a e. absurd (None_not e))
  in_order (x ∷ xs) lo hi S h =
      let here = inside_is lo hi x.0 (let a = times_head x.0 (numbers xs) in let b = h x.0 in omega arith) in
      let low = here.0 in
      let high = here.1 in
      let r = found (x ∷ xs) lo (let a = inside_one lo hi lo (omega arith) (omega arith) in let b = h lo in omega arith) in
      let least : x.0 ≤ (slice_index_or (x ∷ xs) r.0 x).0 = S 0 r.0 x (omega arith) r.1 in
      let at = r.2 x in
      let first : x.0 ≡ lo = omega arith in
      let rest = in_order xs (lo + 1) hi (λ i j d a b. S (suc i) (suc j) d (omega arith) (omega arith)) (λ n. inside_next lo hi n (times n (numbers
      xs)) x.0 first (omega arith) (h n)) in
      (let a = rest.0 in omega arith, each first rest.1)
    where
      each : x.0 ≡ lo → ((k : ℕ) (a : ℕ × A) → slice_get xs k ≡ Some a → a.0 ≡ (lo + 1) + k) → (k : ℕ) (a : ℕ × A) → slice_get (x ∷ xs) k ≡ Some a →
          a.0 ≡ lo + k
      each first rest zero a e = let b = ap (λ (p : ℕ × A). p.0) (same_Some e) in omega arith
      each first rest (suc k) a e = let b = rest k a e in omega arith

  plain_get : (xs : List (ℕ × A)) (k : ℕ) (a : A) → slice_get (map (λ p. p.1) xs) k ≡ Some a → (n : ℕ) × (slice_get xs k ≡ Some (n, a))
  plain_get [] k a e = absurd (None_not e)
  plain_get (x ∷ xs) zero a e = (x.0, ap Some (λ i. (x.0, same_Some e i)))
  plain_get (x ∷ xs) (suc k) a e = plain_get xs k a e

  get_contains : (xs : List (ℕ × A)) (k : ℕ) (a : ℕ × A) → slice_get xs k ≡ Some a → (k < length xs) × (slice_index_or xs k a ≡ a)
  get_contains [] k a e = absurd (None_not e)
  get_contains (x ∷ xs) zero a e = (omega arith, same_Some e)
  get_contains (x ∷ xs) (suc k) a e = let r = get_contains xs k a e in (let lt = r.0 in omega arith, r.1)

  plain_length : (xs : List (ℕ × A)) → length (map (λ p. p.1) xs) ≡ length xs
  plain_length [] = refl
  plain_length (x ∷ xs) = ap suc (plain_length xs)

  -- sorted by their numbers, the answers are in order
  pub sorted_ordered : (count : ℕ) (all sorted : List (ℕ × A)) → IsPermutation all sorted → IsNonDecreasingBy (λ (a : ℕ × A). a.0) sorted → ((n : ℕ)
      → times n (numbers all) ≡ (if nat_lt n count then 1 else 0))
      → AreOrdered count all (map (λ p. p.1) sorted)
  sorted_ordered count all sorted P S h =
      let r = in_order sorted 0 count S (λ n. times_permuted (λ a. a.0) n all sorted P ∙ h n ∙ from_none n) in
      record {
        long = plain_length sorted ∙ r.0 ∙ (let e : count - 0 ≡ count = omega arith in e);
        each = λ n a e.
            let g = plain_get sorted n a e in
            let at : g.0 ≡ n = let b = r.1 n (g.0, a) g.1 in omega arith in
            let c = get_contains sorted n (g.0, a) g.1 in
            subst (λ m. Contains all (m, a)) at (Contains-permutation sorted all (g.0, a) (IsPermutation-sym all sorted P) (n, c.0, c.1));
      }
    where
      from_none : (n : ℕ) → (if nat_lt n count then 1 else 0) ≡ inside 0 count n
      from_none n = grind (arith, nat_tests)

-- Tickets that are drawn once each, over an order in which each line stands once: each line is answered once.
use Rattle.std.proofs.Common.{◌≡◌, ◌≢◌, inl, inr, ℕ, zero, suc, ◌+◌, ◌*◌, ◌<◌, ◌≤◌, List, [], ◌∷◌, ◌++◌, map, length, refl, sym, ap, ◌∙◌, arith}
use Rattle.std.specs.Prelude.{if◌then◌else◌, nat_lt, ◌==◌, ◌^◌, slice_index, IsPermutation}
use Rattle.std.specs.List.Sorted.{IsNonDecreasingBy}
use Rattle.std.specs.List.{range_with_len}
use Rattle.std.proofs.Math.Nat.{add-mul, one-mul, zero-mul}
use Rattle.std.proofs.lemmas.Bool.Decides.{nat_tests}
use Rattle.std.proofs.lemmas.List.FromFn.{length-range_with_len, map-range_with_len_more}
use Rattle.std.proofs.lemmas.List.Sorted.{length_permutation}
use mathlib.Core.Logic.{dite}
use native.Mathlib.Decide.{ℕ_discrete, dec_lt}
use Rattle.cg_cells.specs.Table.{times}
use Rattle.cg_cells.proofs.Tickets.{times_head}
use Rattle.cg_pool.specs.Answers.{IsBefore, IsFalling, IsOrder, line_at, place}
use Rattle.cg_pool.proofs.Sorting.{times_permuted}

-- ---- sums over the numbers below a bound

abbrev below : (ℕ → ℕ) → ℕ → ℕ
below f zero = 0
below f (suc n) = f n + below f n

below_same : (f g : ℕ → ℕ) (n : ℕ) → ((t : ℕ) → t < n → f t ≡ g t) → below f n ≡ below g n
below_same f g zero same = refl
below_same f g (suc n) same = let a = same n (omega arith) in let b = below_same f g n (λ t low. same t (omega arith)) in omega arith

below_both : (f g h : ℕ → ℕ) (n : ℕ) → ((t : ℕ) → h t ≡ f t + g t) → below h n ≡ below f n + below g n
below_both f g h zero both = refl
below_both f g h (suc n) both = let a = both n in let b = below_both f g h n both in omega arith

below_none : (f : ℕ → ℕ) (n : ℕ) → ((t : ℕ) → t < n → f t ≡ 0) → below f n ≡ 0
below_none f zero none = refl
below_none f (suc n) none = let a = none n (omega arith) in let b = below_none f n (λ t low. none t (omega arith)) in omega arith

below_first : (f : ℕ → ℕ) (n : ℕ) → below f (suc n) ≡ f 0 + below (λ t. f (suc t)) n
below_first f zero = refl
below_first f (suc n) = let a = below_first f n in omega arith

-- f at the number x alone
abbrev at : ℕ → (ℕ → ℕ) → ℕ → ℕ
at x f t = (if x == t then 1 else 0) * f t

other_none : (x t : ℕ) → t ≢ x → ◌≡◌ {A = ℕ} (if x == t then 1 else 0) 0
other_none x t other = grind (arith, nat_tests)

own_one : (x : ℕ) → ◌≡◌ {A = ℕ} (if x == x then 1 else 0) 1
own_one x = grind (arith, nat_tests)

at_other : (x : ℕ) (f : ℕ → ℕ) (t : ℕ) → t ≢ x → at x f t ≡ 0
at_other x f t other = ap (λ (k : ℕ). k * f t) (other_none x t other) ∙ zero-mul (f t)

at_own : (x : ℕ) (f : ℕ → ℕ) → at x f x ≡ f x
at_own x f = ap (λ (k : ℕ). k * f x) (own_one x) ∙ one-mul (f x)

below_at : (x : ℕ) (f : ℕ → ℕ) (n : ℕ) → x < n → below (at x f) n ≡ f x
below_at x f zero low = absurd (omega arith)
below_at x f (suc n) low = dite (ℕ_discrete x n)
    (λ is. let a = ap (λ (t : ℕ). at x f t) (sym is) ∙ at_own x f in
    let b = below_none (at x f) n (λ t less. at_other x f t (omega (arith, is, less))) in omega arith)
    (λ far. let a = at_other x f n (λ e. far (sym e)) in let b = below_at x f n (omega arith) in omega arith)

-- ---- tickets

abbrev sum_of : (ℕ → ℕ) → List ℕ → ℕ
sum_of f [] = 0
sum_of f (t ∷ ts) = f t + sum_of f ts

-- over a list of numbers below a bound: each number as often as it stands there
sum_below : (f : ℕ → ℕ) (n : ℕ) (ts : List ℕ) → ((t : ℕ) → 1 ≤ times t ts → t < n) → sum_of f ts ≡ below (λ t. times t ts * f t) n
sum_below f n [] low = sym (below_none (λ t. 0 * f t) n (λ t less. zero-mul (f t)))
sum_below f n (x ∷ ts) low =
    let a = below_at x f n (low x (times_head x ts)) in
    let b = sum_below f n ts (λ t some. low t (omega (arith, some))) in
    let c = below_both (at x f) (λ t. times t ts * f t) (λ t. times t (x ∷ ts) * f t) n (λ t. add-mul (if x == t then 1 else 0) (times t ts) (f t)) in
    omega arith

times_list : (n : ℕ) (order : List ℕ) → times n order ≡ below (λ t. if line_at order t == n then 1 else 0) (length order)
times_list n [] = refl
times_list n (x ∷ order) =
    let a = below_first (λ t. if line_at (x ∷ order) t == n then 1 else 0) (length order) in
    let b = times_list n order in
    omega arith

times_map : (n : ℕ) (f : ℕ → ℕ) (ts : List ℕ) → times n (map f ts) ≡ sum_of (λ t. if f t == n then 1 else 0) ts
times_map n f [] = refl
times_map n f (t ∷ ts) = ap (λ (k : ℕ). (if f t == n then 1 else 0) + k) (times_map n f ts)

one_or_none : (n count k : ℕ) → k ≡ (if nat_lt n count then 1 else 0) → 1 ≤ k → n < count
one_or_none n count k e some = grind (arith, nat_tests)

one_inside : (n count : ℕ) → n < count → ◌≡◌ {A = ℕ} (if nat_lt n count then 1 else 0) 1
one_inside n count low = grind (arith, nat_tests)

-- with each ticket once, each line is answered once
pub answered_once : (count : ℕ) (order ts : List ℕ) → IsOrder count order → ((t : ℕ) → times t ts ≡ (if nat_lt t count then 1 else 0))
    → (n : ℕ) → times n (map (line_at order) ts) ≡ (if nat_lt n count then 1 else 0)
answered_once count order ts is each n =
    let f : ℕ → ℕ = λ t. if line_at order t == n then 1 else 0 in
    times_map n (line_at order) ts
    ∙ sum_below f count ts (λ t some. one_or_none t count (times t ts) (each t) some)
    ∙ below_same (λ t. times t ts * f t) f count (λ t low. ap (λ (k : ℕ). k * f t) (each t ∙ one_inside t count low) ∙ one-mul (f t))
    ∙ sym (times_list n order ∙ ap (λ (k : ℕ). below f k) is.long)
    ∙ is.once n

-- a number of the list stands in it
stands : (order : List ℕ) (t : ℕ) → t < length order → 1 ≤ times (line_at order t) order
stands [] t low = absurd (omega arith)
stands (x ∷ order) zero low = times_head x order
stands (x ∷ order) (suc t) low = let a = stands order t (omega arith) in omega arith

-- a line of the order is one of the lines
pub line_inside : (count : ℕ) (order : List ℕ) (t : ℕ) → IsOrder count order → t < count → line_at order t < count
line_inside count order t is low =
    one_or_none (line_at order t) count (times (line_at order t) order) (is.once (line_at order t)) (stands order t (omega (arith, is.long, low)))

-- ---- the order by weight

each_once : (from n k : ℕ) → times k (range_with_len from n) ≡ (if nat_lt k from then 0 else (if nat_lt k (from + n) then 1 else 0))
each_once from zero k = grind (arith, nat_tests)
each_once from (suc n) k = let a = each_once (from + 1) n k in grind (arith, nat_tests)

map_same : (ns : List ℕ) → map (λ k. k) ns ≡ ns
map_same [] = refl
map_same (n ∷ ns) = ap (λ (z : List ℕ). n ∷ z) (map_same ns)

pub range_next : (n : ℕ) → range_with_len 0 (n + 1) ≡ range_with_len 0 n ++ n ∷ []
range_next n =
    sym (map_same (range_with_len 0 (n + 1))) ∙ map-range_with_len_more (λ (k : ℕ). k) 0 n n (omega arith)
    ∙ ap (λ (z : List ℕ). z ++ n ∷ []) (map_same (range_with_len 0 n))

pub sorted_order : (count : ℕ) (lines order : List ℕ) → lines ≡ range_with_len 0 count → IsPermutation lines order → IsOrder count order
sorted_order count lines order e P = record {
  long = length_permutation lines order P ∙ ap length e ∙ length-range_with_len 0 count;
  once = λ n. ap (times n) (sym (map_same order)) ∙ times_permuted (λ k. k) n lines order P ∙ ap (times n) (map_same lines ∙ e) ∙ each_once 0 count n
      ∙ from_none n;
}
  where
    from_none : (n : ℕ) → ◌≡◌ {A = ℕ} (if nat_lt n 0 then 0 else (if nat_lt n (0 + count) then 1 else 0)) (if nat_lt n count then 1 else 0)
    from_none n = grind (arith, nat_tests)

-- ---- it falls

-- what stands at two places stands there twice
twice : (order : List ℕ) (i j : ℕ) → i < j → j < length order → line_at order i ≡ line_at order j → 2 ≤ times (line_at order i) order
twice [] i j less low same = absurd (omega arith)
twice (x ∷ order) zero zero less low same = absurd (omega arith)
twice (x ∷ order) zero (suc j) less low same =
    let a = times_head x order in
    let b = ap (λ (n : ℕ). times n order) same in
    let c = stands order j (omega arith) in
    let d = own_one x in
    omega arith
twice (x ∷ order) (suc i) zero less low same = absurd (omega arith)
twice (x ∷ order) (suc i) (suc j) less low same = let a = twice order i j (omega arith) (omega arith) same in omega arith

apart : (count : ℕ) (order : List ℕ) (i j : ℕ) → IsOrder count order → i < j → j < length order → line_at order i ≢ line_at order j
apart count order i j is less low same =
    let two = twice order i j less low same in
    let inside = line_inside count order i is (omega (arith, is.long)) in
    let one = is.once (line_at order i) ∙ one_inside (line_at order i) count inside in
    omega arith

-- of two lines the one that comes earlier, by the number that rises along the order
before : (weights : List ℕ) (a b : ℕ) → slice_index weights a < 2 ^ 64 → slice_index weights b < 2 ^ 64 → a < 2 ^ 64 → b < 2 ^ 64 → a ≢ b
    → place weights a ≤ place weights b → IsBefore weights a b
before weights a b x y m n far low = dite (dec_lt (slice_index weights b) (slice_index weights a))
    (λ less. inl less)
    (λ more. inr (omega arith, omega (arith, far)))

pub falling : (count : ℕ) (weights order : List ℕ) → count ≤ 2 ^ 64 → ((n : ℕ) → slice_index weights n < 2 ^ 64) → IsOrder count order
    → IsNonDecreasingBy (place weights) order → IsFalling weights order
falling count weights order few small is rises i j less low =
    let long = is.long in
    let a = line_at order i in
    let b = line_at order j in
    let m = line_inside count order i is (omega arith) in
    let n = line_inside count order j is (omega arith) in
    before weights a b (small a) (small b) (omega arith) (omega arith) (apart count order i j is less low) (rises i j 0 (omega arith) low)

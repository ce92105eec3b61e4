-- Tickets: numbers below a bound, none twice, and each the ticket of one pass.
use Rattle.std.proofs.Common.{◌≡◌, ℕ, zero, suc, ◌+◌, ◌<◌, ◌≤◌, min, Bool, true, false, List, [], ◌∷◌, length, set, refl, ◌∙◌, arith}
use Rattle.std.specs.Prelude.{if◌then◌else◌, nat_lt, ◌==◌, slice_index}
use Rattle.std.proofs.lemmas.Bool.Decides.{nat_tests}
use mathlib.Core.Logic.{dite}
use native.Mathlib.Decide.{ℕ_discrete}
use Rattle.cg_cells.specs.Meaning.{Meaning}
use Rattle.cg_cells.specs.Views.{Sizes, ViewOf, ended}
use Rattle.cg_cells.specs.Table.{Whole, IsLive, times, total}
use Rattle.cg_cells.proofs.Totals.{total_end, total_at, total_some, at_else}

-- how many of the list are below the bound
below : ℕ → List ℕ → ℕ
below zero xs = 0
below (suc n) xs = below n xs + times n xs

below_none : (n : ℕ) → below n [] ≡ 0
unfolding below
below_none zero = refl
below_none (suc n) = let p = below_none n in omega arith

below_cons : (n x : ℕ) (xs : List ℕ) → below n (x ∷ xs) ≡ below n xs + (if nat_lt x n then 1 else 0)
unfolding below
below_cons zero x xs = grind (arith, nat_tests)
below_cons (suc n) x xs = let p = below_cons n x xs in grind (arith, nat_tests)

-- the head of a list stands in it
pub times_head : (x : ℕ) (xs : List ℕ) → 1 ≤ times x (x ∷ xs)
times_head x xs = let e = one x in omega arith
  where
    one : (x : ℕ) → 1 ≤ (if x == x then 1 else 0)
    one x = grind (arith, nat_tests)

below_all : (n : ℕ) (xs : List ℕ) → ((k : ℕ) → 1 ≤ times k xs → k < n) → below n xs ≡ length xs
below_all n [] h = below_none n
below_all n (x ∷ xs) h =
    let lt : x < n = h x (times_head x xs) in
    let p = below_all n xs (λ k some. h k (omega arith)) in
    let q = below_cons n x xs in
    grind (arith, nat_tests)

below_few : (n : ℕ) (xs : List ℕ) → ((k : ℕ) → times k xs ≤ 1) → below n xs ≤ n
unfolding below
below_few zero xs h = omega arith
below_few (suc n) xs h = let p = below_few n xs h in let q = h n in omega arith

-- there are no more of them than the bound
pub few : (n : ℕ) (xs : List ℕ) → ((k : ℕ) → times k xs ≤ (if nat_lt k n then 1 else 0)) → length xs ≤ n
few n xs h =
    let a = below_all n xs (λ k some. let b = h k in grind (arith, nat_tests)) in
    let c = below_few n xs (λ k. let b = h k in grind (arith, nat_tests)) in
    omega arith

one_at_most : (b : Bool) → (if b then 1 else 0) ≤ 1
one_at_most true = omega arith
one_at_most false = omega arith

module _ {X : Type 0} (m : Meaning X) (z : Sizes) (words : List ℕ) (views : List (ViewOf X)) (W : Whole m z words views) (n : ℕ) where
  -- how often the line is a ticket of the view
  abbrev held : ViewOf X → ℕ
  held v = times n v.tickets

  few_hold : total held views ≤ 1
  few_hold = let a = W.drawn n in let b = one_at_most (nat_lt n (min (slice_index words 0) z.lines)) in omega arith

  -- no two live passes have one ticket
  pub one_holds : (i j : ℕ) (v w : ViewOf X) → IsLive views i v → IsLive views j w → 1 ≤ held v → 1 ≤ held w → i ≡ j
  one_holds i j v w at at' mine theirs = dite (ℕ_discrete j i)
      (λ is. omega arith)
      (λ far.
      let a = total_end held views i v ended at refl in
      let b = total_at held (set views i ended) j w (at_else views i j ended far ∙ at'.0, at'.1) in
      let c = few_hold in
      absurd (omega arith))

  pub holds_once : (i : ℕ) (v : ViewOf X) → IsLive views i v → held v ≤ 1
  holds_once i v at = let a = total_at held views i v at in let c = few_hold in omega arith

  -- a ticket is a line that was drawn
  pub held_drawn : (i : ℕ) (v : ViewOf X) → IsLive views i v → 1 ≤ held v → n < min (slice_index words 0) z.lines
  held_drawn i v at mine = let a = total_at held views i v at in let d = W.drawn n in under (min (slice_index words 0) z.lines) (omega arith)
    where
      under : (k : ℕ) → 1 ≤ (if nat_lt n k then 1 else 0) → n < k
      under k h = grind (arith, nat_tests)

  -- which some live pass has
  pub drawn_held : n < min (slice_index words 0) z.lines → (i : ℕ) × (v : ViewOf X) × IsLive views i v × (held v ≡ 1)
  drawn_held lt =
      let r = total_some held views (let d = W.drawn n in over (min (slice_index words 0) z.lines) lt (total held views) d) in
      let a = holds_once r.0 r.1 r.2 in
      (r.0, r.1, r.2, omega arith)
    where
      over : (k : ℕ) → n < k → (t : ℕ) → t ≡ (if nat_lt n k then 1 else 0) → 1 ≤ t
      over k h t e = grind (arith, nat_tests)

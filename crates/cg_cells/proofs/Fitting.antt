-- What the rule of a table says and tells of one live view.
use Rattle.std.proofs.Common.{◌≡◌, ℕ, ◌+◌, ◌*◌, ◌<◌, ◌≤◌, min, List, true, Some, sym, ap, ◌∙◌, subst, arith, mul_comm}
use Rattle.std.specs.Prelude.{slice_index, if◌then◌else◌, nat_lt}
use native.Mathlib.Nat.{mul-le-mul_left, min-le_right, min-eq_right}
use Rattle.std.proofs.lemmas.Bool.Decides.{nat_tests}
use Rattle.cg_cells.specs.Meaning.{Meaning, Grows, IsLawful, Stands}
use Rattle.cg_cells.specs.Words.{filled}
use Rattle.cg_cells.specs.Views.{Sizes, ViewOf, cells_of, knows}
use Rattle.cg_cells.specs.Table.{Fits, Whole, Tells, IsLive, key_at, value_at, times, passes_of}
use Rattle.cg_cells.specs.Sure.{Sure, IsReached}
use Rattle.cg_cells.proofs.Levels.{KeepsKeys, stands_one, stands_keeps, stands_key}
use Rattle.cg_cells.proofs.Entries.{knows_tells, tells_some}
use Rattle.cg_cells.proofs.Rows.{key_inside}
use Rattle.cg_cells.proofs.Totals.{total_at, total_alone}

module _ {X : Type 0} (m : Meaning X) (L : IsLawful m) where
  -- a view goes on to fit where words that aren't 0 stay and the counter doesn't fall
  pub fits_keeps : (z : Sizes) (count count' : ℕ) (keys keys' values values' : ℕ → ℕ) (v : ViewOf X) → count ≤ count' → KeepsKeys keys keys' → KeepsKeys values values' → Fits m z count keys values v → Fits m z count' keys' values' v
  fits_keeps z count count' keys keys' values values' v more keeps keeps_values F = record {
    sized = F.sized;
    stands = λ i t e. stands_keeps m L keys keys' keeps i t (F.stands i t e);
    over = λ is. let a = F.over is in omega arith;
    probes = λ key n is j h. let p = F.probes key n is j h in let same = keeps _ p.0 in (λ e. p.0 (sym same ∙ e), λ e. p.1 (sym same ∙ e));
    noted = λ i h. let p = F.noted i h in let same = keeps_values i p in λ e. p (sym same ∙ e);
  }

  module _ (z : Sizes) (words : List ℕ) (views : List (ViewOf X)) (W : Whole m z words views) (j : ℕ) (v : ViewOf X) (at : IsLive views j v) where
    abbrev keys : ℕ → ℕ
    keys = key_at (cells_of z) words

    abbrev F : Fits m z (slice_index words 0) (key_at (cells_of z) words) (value_at (cells_of z) words) v
    F = W.each j v at

    -- what is known, stands
    pub knows_stands : (i : ℕ) (t : X) → knows v i ≡ Some t → Stands m keys i t
    knows_stands i t e = F.stands i t (knows_tells v i t e)

    pub tells_knows : (i : ℕ) (t : X) → Tells v.known i t → knows v i ≡ Some t
    tells_knows i t h =
        let r = tells_some v i t h in
        r.1 ∙ ap Some (stands_one m L keys i r.0 t (knows_stands i r.0 r.1) (F.stands i t h))

    pub known_inside : (i : ℕ) (t : X) → knows v i ≡ Some t → i < cells_of z
    known_inside i t e = key_inside (cells_of z) words i (stands_key m L keys i t (knows_stands i t e))

    most : z.share * min (slice_index words 0) z.lines ≤ cells_of z
    most =
        let a : z.share * min (slice_index words 0) z.lines ≤ z.share * z.lines = mul-le-mul_left z.share (min-le_right (slice_index words 0) z.lines) in
        let b : z.share * z.lines ≡ z.lines * z.share = mul_comm z.share z.lines in
        omega arith

    -- there is an empty cell for each claim to spare
    pub paid : filled keys (cells_of z) + v.spare ≤ cells_of z
    paid = let e = W.enough in let s = total_at (λ u. u.spare) views j v at in let a = most in omega arith

    -- with a claim to spare, some cell is empty
    pub has_room : 1 ≤ v.spare → filled keys (cells_of z) < cells_of z
    has_room some = let e = W.enough in let s = total_at (λ u. u.spare) views j v at in let a = most in omega arith

    once : (n : ℕ) → times n v.tickets ≤ (if nat_lt n z.lines then 1 else 0)
    once n =
        let t = total_at (λ u. times n u.tickets) views j v at in
        let d = W.drawn n in
        let le = min-le_right (slice_index words 0) z.lines in
        below (min (slice_index words 0) z.lines) le (omega arith)
      where
        below : (k : ℕ) → k ≤ z.lines → times n v.tickets ≤ (if nat_lt n k then 1 else 0) → times n v.tickets ≤ (if nat_lt n z.lines then 1 else 0)
        below k le h = grind (arith, nat_tests)

    all : v.over ≡ true → passes_of v ≡ z.passes → (n : ℕ) → times n v.tickets ≡ (if nat_lt n z.lines then 1 else 0)
    all over whole n =
        let alone = total_alone (λ u. times n u.tickets) passes_of (λ u. omega arith) views j v at (W.counted ∙ sym whole) in
        let past : min (slice_index words 0) z.lines ≡ z.lines = min-eq_right (F.over over) in
        sym alone ∙ W.drawn n ∙ ap (λ c. if nat_lt n c then 1 else 0) past

    -- the rule tells of a live view that it is sure of what it knows
    pub is_sure : IsReached m v → Sure m v
    is_sure reached = record {
      one = tells_knows;
      apart = λ i k t a b. W.cells.sound.apart i k t (knows_stands i t a) (knows_stands k t b);
      inside = λ i t e. subst (λ y. i < cells_of y) (sym F.sized) (known_inside i t e);
      real = λ i t e. (keys, i, knows_stands i t e);
      once = λ n. subst (λ y. times n v.tickets ≤ (if nat_lt n y.lines then 1 else 0)) (sym F.sized) (once n);
      all = λ over whole. subst (λ (y : Sizes). (n : ℕ) → times n v.tickets ≡ (if nat_lt n y.lines then 1 else 0)) (sym F.sized) (all over (whole ∙ ap (λ y. y.passes) F.sized));
      few_spare = let s = total_at (λ u. u.spare) views j v at in let e = W.enough in let a = most in let b = W.allowed.cells in omega arith;
      few_heirs = let s = total_at passes_of views j v at in let e = W.counted in let b = W.allowed.passes in omega arith;
      few_passes = let s = total_at passes_of views j v at in let e = W.counted in let p = ap (λ y. y.passes) F.sized in omega arith;
      reached = reached;
    }

-- what is in the list stays known where the list grows and the view is sure
pub sure_grows : {X : Type 0} (m : Meaning X) (v w : ViewOf X) → Sure m w → ((i : ℕ) (t : X) → Tells v.known i t → Tells w.known i t) → Grows (knows v) (knows w)
sure_grows m v w S more i t e = S.one i t (more i t (knows_tells v i t e))

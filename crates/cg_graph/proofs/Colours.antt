-- The colours of edges in rows of cells.
use Rattle.std.proofs.Common.{◌≡◌, ◌≢◌, refl, ℕ, zero, suc, Bool, true, false, if◌then◌else◌, List}
use Rattle.std.proofs.Common.{[], ◌∷◌, length, ◌⊎◌, inl, inr, ap, sym, ◌∙◌, arith, length-set}
use Rattle.std.specs.Prelude.{slice_set}
use Rattle.cg_dyadic.proofs.Truth.{false-from, true-or-not}
use Rattle.cg_moves.proofs.Counted.{same-or-not}
use Rattle.cg_graph.specs.Paths.{IsThere, colour, gone, kept}
use Rattle.cg_graph.proofs.HackenbushLaw.{length-kept}

pub there-or-gone : (cells : List ℕ) (k : ℕ) → (colour cells k ≡ gone) ⊎ IsThere cells k
there-or-gone cells k = same-or-not (colour cells k) gone

-- ---- an edge is cut

pub set-other : (cells : List ℕ) (j k : ℕ) → k ≢ j → colour (slice_set cells j gone) k ≡ colour cells k
set-other [] j k n = refl
set-other (c ∷ cs) zero zero n = absurd (n refl)
set-other (c ∷ cs) zero (suc k) n = refl
set-other (c ∷ cs) (suc j) zero n = refl
set-other (c ∷ cs) (suc j) (suc k) n = set-other cs j k (λ e. n (ap suc e))

pub set-same : (cells : List ℕ) (j : ℕ) → colour (slice_set cells j gone) j ≡ gone
set-same [] j = refl
set-same (c ∷ cs) zero = refl
set-same (c ∷ cs) (suc j) = set-same cs j

pub there-set : (cells : List ℕ) (j k : ℕ) → IsThere cells k → k ≢ j → IsThere (slice_set cells j gone) k
there-set cells j k there n e = there (sym (set-other cells j k n) ∙ e)

pub set-not : (cells : List ℕ) (j k : ℕ) → IsThere (slice_set cells j gone) k → k ≢ j
set-not cells j k there e =
    there (rw e (set-same cells j))

pub set-there : (cells : List ℕ) (j k : ℕ) → IsThere (slice_set cells j gone) k → IsThere cells k
set-there cells j k there e = there (set-other cells j k (set-not cells j k there) ∙ e)

-- ---- edges are kept or go

pub kept-true : (test : ℕ → Bool) (cells : List ℕ) (k : ℕ) → test k ≡ true → colour (kept test cells) k ≡ colour cells k
kept-true test [] k e = refl
kept-true test (c ∷ cs) zero e = ap (λ b. if b then c else gone) e
kept-true test (c ∷ cs) (suc k) e = kept-true (λ k. test (suc k)) cs k e

pub kept-false : (test : ℕ → Bool) (cells : List ℕ) (k : ℕ) → test k ≡ false → colour (kept test cells) k ≡ gone
kept-false test [] k e = refl
kept-false test (c ∷ cs) zero e = ap (λ b. if b then c else gone) e
kept-false test (c ∷ cs) (suc k) e = kept-false (λ k. test (suc k)) cs k e

-- ---- rows that are parts of one row

-- the row is the other one with some edges gone
pub record IsPart (cells whole : List ℕ) : Type 0 where
  pub long : length cells ≡ length whole
  pub same : (k : ℕ) → IsThere cells k → colour cells k ≡ colour whole k

pub part-there : (cells whole : List ℕ) (k : ℕ) → IsPart cells whole → IsThere cells k → IsThere whole k
part-there cells whole k p there e = there (p.same k there ∙ e)

pub part-trans : (xs ys zs : List ℕ) → IsPart xs ys → IsPart ys zs → IsPart xs zs
part-trans xs ys zs p q = record {
  long = p.long ∙ q.long;
  same = λ k there. p.same k there ∙ q.same k (part-there xs ys k p there);
}

by-colours : (xs ys : List ℕ) → length xs ≡ length ys → ((k : ℕ) → colour xs k ≡ colour ys k) → xs ≡ ys
by-colours [] [] l h = refl
by-colours [] (y ∷ ys) l h = absurd (omega arith)
by-colours (x ∷ xs) [] l h = absurd (omega arith)
by-colours (x ∷ xs) (y ∷ ys) l h =
    ap (λ z. z ∷ xs) (h zero) ∙ ap (λ z. y ∷ z) (by-colours xs ys (omega arith) (λ k. h (suc k)))

-- parts with the same edges are one
pub same-parts : (xs ys whole : List ℕ) → IsPart xs whole → IsPart ys whole
    → ((k : ℕ) → IsThere xs k → IsThere ys k) → ((k : ℕ) → IsThere ys k → IsThere xs k) → xs ≡ ys
same-parts xs ys whole p q forth back = by-colours xs ys (p.long ∙ sym q.long) (λ k. elim (there-or-gone xs k) [
  | inr there ↦ p.same k there ∙ sym (q.same k (forth k there))
  | inl e ↦ elim (there-or-gone ys k) [
    | inl f ↦ e ∙ sym f
    | inr there ↦ absurd (back k there e)
  ]
])

pub kept-part : (test : ℕ → Bool) (cells : List ℕ) → IsPart (kept test cells) cells
kept-part test cells = record {
  long = length-kept test cells;
  same = λ k there. elim (true-or-not (test k)) [
    | inl t ↦ kept-true test cells k t
    | inr f ↦ absurd (there (kept-false test cells k (false-from (test k) f)))
  ];
}

pub set-part : (cells : List ℕ) (j : ℕ) → IsPart (slice_set cells j gone) cells
set-part cells j = record {
  long = length-set cells j gone;
  same = λ k there. set-other cells j k (set-not cells j k there);
}

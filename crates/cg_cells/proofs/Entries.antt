-- What a pass knows, as a list of pairs and as a map.
use Rattle.std.proofs.Common.{◌≡◌, ◌⊎◌, ℕ, List, [], ◌∷◌, ◌++◌, Option, Some, None, sym, ap, ◌∙◌, inl, inr, ⊎_elim}
use Rattle.std.specs.FinMap as map
use Rattle.std.specs.Cmp.{nat_cmp_total}
use mathlib.Core.Logic.{dite}
use native.Mathlib.Decide.{ℕ_discrete}
use Rattle.cg_cells.specs.Meaning.{Has}
use Rattle.cg_cells.specs.Words.{entry}
use Rattle.cg_cells.specs.Views.{ViewOf, knows, learn}
use Rattle.cg_cells.specs.Table.{Tells}
use Rattle.cg_cells.proofs.Levels.{same_Some, None_not}
use Rattle.cg_cells.proofs.Maps.{at, first_here, first_else}

module _ {X : Type 0} where
  tells_at : (k : List (ℕ × X)) (i : ℕ) (t : X) → at k i ≡ Some t → Tells k i t
  tells_at [] i t e = absurd (None_not e)
  tells_at (x ∷ xs) i t e = dite (ℕ_discrete i x.0)
      (λ is. inl (sym is, same_Some (sym (first_here xs x.0 x.1) ∙ ap (at (x ∷ xs)) (sym is) ∙ e)))
      (λ far. inr (tells_at xs i t (sym (first_else xs x.0 i x.1 far) ∙ e)))

  at_some : (k : List (ℕ × X)) (i : ℕ) (t : X) → Tells k i t → (u : X) × (at k i ≡ Some u)
  at_some [] i t h = absurd h
  at_some (x ∷ xs) i t h = dite (ℕ_discrete i x.0)
      (λ is. (x.1, ap (at (x ∷ xs)) is ∙ first_here xs x.0 x.1))
      (λ far.
      let r = ⊎_elim (λ (a : (x.0 ≡ i) × (x.1 ≡ t)). absurd (far (sym a.0))) (λ b. at_some xs i t b) h in
      (r.0, first_else xs x.0 i x.1 far ∙ r.1))

  -- what is known is in the list
  pub knows_tells : (v : ViewOf X) (i : ℕ) (t : X) → knows v i ≡ Some t → Tells v.known i t
  knows_tells v i t e = tells_at v.known i t (sym (map.get-from_entries nat_cmp_total v.known i) ∙ e)

  -- what is in the list has a thing
  pub tells_some : (v : ViewOf X) (i : ℕ) (t : X) → Tells v.known i t → (u : X) × (knows v i ≡ Some u)
  tells_some v i t h = let r = at_some v.known i t h in (r.0, map.get-from_entries nat_cmp_total v.known i ∙ r.1)

  pub learned : (k : List (ℕ × X)) (ids : List ℕ) (f : ℕ → X) (j : ℕ) (u : X) → Tells (learn k ids f) j u → (Has ids j × (f j ≡ u)) ⊎ Tells k j u
  learned k [] f j u e = inr e
  learned k (i ∷ is) f j u e = ⊎_elim
      (λ (a : (i ≡ j) × (f i ≡ u)). inl (inl a.0, ap f (sym a.0) ∙ a.1))
      (λ b. ⊎_elim (λ (c : Has is j × (f j ≡ u)). inl (inr c.0, c.1)) (λ d. inr d) (learned k is f j u b))
      e

  pub learn_has : (k : List (ℕ × X)) (ids : List ℕ) (f : ℕ → X) (j : ℕ) → Has ids j → Tells (learn k ids f) j (f j)
  learn_has k [] f j h = absurd h
  learn_has k (i ∷ is) f j h = ⊎_elim (λ (e : i ≡ j). inl (e, ap f e)) (λ there. inr (learn_has k is f j there)) h

  pub learn_keeps : (k : List (ℕ × X)) (ids : List ℕ) (f : ℕ → X) (j : ℕ) (u : X) → Tells k j u → Tells (learn k ids f) j u
  learn_keeps k [] f j u h = h
  learn_keeps k (i ∷ is) f j u h = inr (learn_keeps k is f j u h)

  pub tells_left : (k l : List (ℕ × X)) (j : ℕ) (u : X) → Tells k j u → Tells (k ++ l) j u
  tells_left [] l j u h = absurd h
  tells_left (x ∷ k) l j u h = ⊎_elim (λ a. inl a) (λ b. inr (tells_left k l j u b)) h

  pub tells_right : (k l : List (ℕ × X)) (j : ℕ) (u : X) → Tells l j u → Tells (k ++ l) j u
  tells_right [] l j u h = h
  tells_right (x ∷ k) l j u h = inr (tells_right k l j u h)

  pub tells_both : (k l : List (ℕ × X)) (j : ℕ) (u : X) → Tells (k ++ l) j u → Tells k j u ⊎ Tells l j u
  tells_both [] l j u h = inr h
  tells_both (x ∷ k) l j u h = ⊎_elim (λ a. inl (inl a)) (λ b. ⊎_elim (λ c. inl (inr c)) (λ d. inr d) (tells_both k l j u b)) h

  -- a noted value comes to be known
  pub entered : (k : List (ℕ × X)) (i : ℕ) (o : Option X) (j : ℕ) (u : X) → Tells (entry i o k) j u → ((i ≡ j) × (o ≡ Some u)) ⊎ Tells k j u
  entered k i None j u h = inr h
  entered k i (Some t) j u h = ⊎_elim (λ (a : (i ≡ j) × (t ≡ u)). inl (a.0, ap Some a.1)) (λ b. inr b) h

  pub enter_has : (k : List (ℕ × X)) (i : ℕ) (o : Option X) (u : X) → o ≡ Some u → Tells (entry i o k) i u
  enter_has k i None u e = absurd (None_not e)
  enter_has k i (Some t) u e = inl ((λ _. i), same_Some e)

  pub enter_keeps : (k : List (ℕ × X)) (i : ℕ) (o : Option X) (j : ℕ) (u : X) → Tells k j u → Tells (entry i o k) j u
  enter_keeps k i None j u h = h
  enter_keeps k i (Some t) j u h = inr h

-- lists of ids put together
pub has_left : (xs ys : List ℕ) (i : ℕ) → Has xs i → Has (xs ++ ys) i
has_left [] ys i h = absurd h
has_left (x ∷ xs) ys i h = ⊎_elim (λ a. inl a) (λ b. inr (has_left xs ys i b)) h

pub has_right : (xs ys : List ℕ) (i : ℕ) → Has ys i → Has (xs ++ ys) i
has_right [] ys i h = h
has_right (x ∷ xs) ys i h = inr (has_right xs ys i h)

pub has_both : (xs ys : List ℕ) (i : ℕ) → Has (xs ++ ys) i → Has xs i ⊎ Has ys i
has_both [] ys i h = inr h
has_both (x ∷ xs) ys i h = ⊎_elim (λ a. inl (inl a)) (λ b. ⊎_elim (λ c. inl (inr c)) (λ d. inr d) (has_both xs ys i b)) h

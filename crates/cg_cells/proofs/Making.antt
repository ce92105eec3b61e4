-- What a view has as made, in a list of steps.
use Rattle.std.proofs.Common.{◌≡◌, ◌≢◌, ◌⊎◌, ℕ, zero, suc, ◌+◌, ◌<◌, ◌≤◌, List, [], ◌∷◌, ◌++◌, set, length, true}
use Rattle.std.proofs.Common.{false, refl, sym, ap, ◌∙◌, subst, inl, inr, ⊎_elim, arith, true≢false, length-set}
use Rattle.std.specs.Prelude.{if◌then◌else◌, ◌==◌, nat_lt, slice_index}
use Rattle.std.proofs.lemmas.List.{length-append, length-map}
use Rattle.std.proofs.lemmas.Bool.Decides.{nat_tests}
use mathlib.Core.Option.{some, some-injective, some-ne-none}
use lib.ListN.{get_elem?}
use Rattle.cg_cells.specs.Meaning.{Meaning}
use Rattle.cg_cells.specs.Views.{Sizes, ViewOf, Action, a_split, a_join, a_draw, a_look, a_read, a_probe}
use Rattle.cg_cells.specs.Views.{a_claim, a_note, cells_of, makes, first_view, after_draw, after_read, ended}
use Rattle.cg_cells.specs.Table.{IsLive, value_at}
use Rattle.cg_cells.specs.Steps.{Table, Step, split, join, draw, check, look, read, probe, claim, note, close, Leads, Finds, Run, opening, puts, adds, made_by}
use Rattle.cg_cells.proofs.Totals.{at_set, none_live}

if_same : {A : Type 0} (i j : ℕ) (a b : A) → i ≡ j → (if i == j then a else b) ≡ a
if_same i j a b e = let t : (i == j) ≡ true = grind (arith, nat_tests) in ap (λ t. if t then a else b) t

if_other : {A : Type 0} (i j : ℕ) (a b : A) → i ≢ j → (if i == j then a else b) ≡ b
if_other i j a b e = let t : (i == j) ≡ false = grind (arith, nat_tests) in ap (λ t. if t then a else b) t

inside : {A : Type 0} (l : List A) (i : ℕ) (a : A) → get_elem? l i ≡ some a → i < length l
inside [] i a e = absurd (some-ne-none a (sym e))
inside (x ∷ xs) zero a e = omega arith
inside (x ∷ xs) (suc i) a e = let p = inside xs i a e in omega arith

at_end : {A : Type 0} (l : List A) (a b : A) (i : ℕ) → get_elem? (l ++ a ∷ []) i ≡ some b → (get_elem? l i ≡ some b) ⊎ ((i ≡ length l) × (a ≡ b))
at_end [] a b zero e = inr (refl, some-injective a b e)
at_end [] a b (suc i) e = absurd (some-ne-none b (sym e))
at_end (x ∷ xs) a b zero e = inl e
at_end (x ∷ xs) a b (suc i) e = ⊎_elim (λ h. inl h) (λ h. inr (ap suc h.0, h.1)) (at_end xs a b i e)

module _ {X : Type 0} where
  -- each live view has what f says, and a pass that isn't there yet has nothing
  record Agrees (f : ℕ → List Action) (views : List (ViewOf X)) : Type 0 where
    each : (i : ℕ) (v : ViewOf X) → IsLive views i v → v.made ≡ f i
    none : (i : ℕ) → length views ≤ i → f i ≡ []

  module _ (f : ℕ → List Action) (views : List (ViewOf X)) (A : Agrees f views) (j : ℕ) (v : ViewOf X) (at : IsLive views j v) where
    -- the list of a pass changes
    put : (ds : List Action) (w : ViewOf X) → w.made ≡ ds → Agrees (puts j ds f) (set views j w)
    put ds w is = record {
      each = λ i u h. ⊎_elim
          (λ (e : (i ≡ j) × (w ≡ u)). ap (λ (x : ViewOf X). x.made) (sym e.1) ∙ is ∙ sym (if_same i j ds (f i) e.0))
          (λ (e : (i ≢ j) × (get_elem? views i ≡ some u)). A.each i u (e.1, h.1) ∙ sym (if_other i j ds (f i) e.0))
          (at_set views j i w u h.0);
      none = λ i le.
          let p = inside views j v at.0 in
          let l = length-set views j w in
          if_other i j ds (f i) (λ e. omega arith) ∙ A.none i (omega arith);
    }

    -- one step more of the pass
    one : (d : Action) (w : ViewOf X) → w.made ≡ d ∷ v.made → Agrees (puts j (d ∷ f j) f) (set views j w)
    one d w is = put (d ∷ f j) w (is ∙ ap (λ l. d ∷ l) (A.each j v at))

  -- a pass more, which has made nothing
  more : (f : ℕ → List Action) (views : List (ViewOf X)) → Agrees f views → (w : ViewOf X) → w.made ≡ [] → Agrees f (views ++ w ∷ [])
  more f views A w is = record {
    each = λ i u h. ⊎_elim
        (λ e. A.each i u (e, h.1))
        (λ (e : (i ≡ length views) × (w ≡ u)). ap (λ (x : ViewOf X). x.made) (sym e.1) ∙ is ∙ sym (A.none i (omega (arith, e.0))))
        (at_end views w u i h.0);
    none = λ i le. let l = length-append views (w ∷ []) in A.none i (omega arith);
  }

  -- a pass ends
  less : (f : ℕ → List Action) (views : List (ViewOf X)) → Agrees f views → (j : ℕ) (w : ViewOf X) → w.gone ≡ true → Agrees f (set views j w)
  less f views A j w gone = record {
    each = λ i u h. ⊎_elim
        (λ (e : (i ≡ j) × (w ≡ u)). absurd (true≢false (sym gone ∙ ap (λ (x : ViewOf X). x.gone) e.1 ∙ h.1)))
        (λ (e : (i ≢ j) × (get_elem? views i ≡ some u)). A.each i u (e.1, h.1))
        (at_set views j i w u h.0);
    none = λ i le. let l = length-set views j w in A.none i (omega arith);
  }

module _ {X : Type 0} (m : Meaning X) (z : Sizes) where
  drawn : (v : ViewOf X) (n : ℕ) → (after_draw v n).made ≡ v.made
  drawn v n = elim (nat_lt n v.sizes.lines) as
      (λ b. (if b then record v { spare = v.spare + v.sizes.share; tickets = v.tickets ++ n ∷ [] } else record v { over = true }).made ≡ v.made)
      [ true ↦ refl | false ↦ refl ]

  looked : (v : ViewOf X) (id word : ℕ) (t : X) → (after_read m v id word t).made ≡ v.made
  looked v id zero t = refl
  looked v id (suc word) t = refl

  to : (f : ℕ → List Action) (views : List (ViewOf X)) (t : Table X) (words : List ℕ) → t ≡ record { words = words; views = views } → Agrees f views
      → Agrees f t.views
  to f views t words e A = subst (λ (t : Table X). Agrees f t.views) (sym e) A

  found : (s t : Table X) (f : ℕ → List Action) → Agrees f s.views → (j : ℕ) (v : ViewOf X) → IsLive s.views j v → (key cell : ℕ) (thing : X) (d : Action)
      → Finds m z s j key (makes (d ∷ []) v) cell thing t → Agrees (puts j (d ∷ f j) f) t.views
  found s t f A j v at key cell thing d = ⊎_elim
      (λ same. to _ _ t _ same.1 (one f s.views A j v at d _ refl))
      (λ other. to _ _ t _ other.2 (one f s.views A j v at d _ refl))

  step_agrees : (s t : Table X) (x : Step) (f : ℕ → List Action) → Agrees f s.views → Leads m z s x t → Agrees (adds x f) t.views
  step_agrees s t (split j heirs) f A (v, at, (few, e)) = to _ _ t _ e (more _ _ (one f s.views A j v at (a_split heirs) _ refl) _ refl)
  step_agrees s t (join j other) f A (v, at, (w, there, (far, p, q, e))) = to _ _ t _ e
      (less _ _ (put f s.views A j v at (a_join ∷ f j ++ f other) _ (λ i. a_join ∷ A.each j v at i ++ A.each other w there i)) other ended refl)
  step_agrees s t (draw j) f A (v, at, (free, e)) = to _ _ t _ e (one f s.views A j v at a_draw _ (drawn (makes (a_draw ∷ []) v) (slice_index s.words 0)))
  step_agrees s t (check j) f A (v, at, e) = to _ _ t s.words e A
  step_agrees s t (look j id) f A (v, at, (thing, known, e)) = to _ _ t _ e (one f s.views A j v at (a_look id) _ refl)
  step_agrees s t (read j id) f A (v, at, (thing, known, e)) = to _ _ t _ e
      (one f s.views A j v at (a_read id) _ (looked (makes (a_read id ∷ []) v) id (value_at (cells_of z) s.words id) thing))
  step_agrees s t (probe j key) f A (v, at, (thing, steps, S, spells, how)) = ⊎_elim
      (λ empty. to _ _ t _ empty.1 (one f s.views A j v at (a_probe key) _ refl))
      (found s t f A j v at key _ thing (a_probe key))
      how
  step_agrees s t (claim j key) f A (v, at, (thing, steps, S, spells, how)) = ⊎_elim
      (λ new. to _ _ t _ new.1 (one f s.views A j v at (a_claim key) _ refl))
      (found s t f A j v at key _ thing (a_claim key))
      how
  step_agrees s t (note j id value) f A (v, at, (thing, due, known, known_value, must, e)) = to _ _ t _ e (one f s.views A j v at (a_note id value) _ refl)
  step_agrees s t (close j) f A (v, at, e) = to _ _ t _ e (record {
    each = λ i u h. absurd (none_live s.views ended refl i u h);
    none = λ i le. A.none i (let l = length-map s.views (λ (u : ViewOf X). ended {X = X}) in omega arith);
  })

  run_agrees : (xs : List Step) (s t : Table X) (f : ℕ → List Action) → Agrees f s.views → Run m z s xs t → Agrees (made_by xs f) t.views
  run_agrees [] s t f A e = subst (λ (t : Table X). Agrees f t.views) e A
  run_agrees (x ∷ xs) s t f A (u, first, rest) = run_agrees xs u t (adds x f) (step_agrees s u x f A first) rest

  at_start : (i : ℕ) (v : ViewOf X) → IsLive (first_view z ∷ []) i v → v.made ≡ []
  at_start zero v e = ap (λ (x : ViewOf X). x.made) (sym (some-injective _ _ e.0))
  at_start (suc i) v e = absurd (some-ne-none v (sym e.0))

  -- what a live view has as made after steps from the start, is what its pass made in them
  pub has_made : (xs : List Step) (t : Table X) (i : ℕ) (v : ViewOf X) → Run m z (opening z) xs t → IsLive t.views i v → v.made ≡ made_by xs (λ j. []) i
  has_made xs t i v run at = (run_agrees xs (opening z) t (λ j. []) (record { each = at_start; none = λ i le. refl }) run).each i v at

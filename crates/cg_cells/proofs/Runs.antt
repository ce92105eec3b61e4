-- Every list of steps keeps the rule.
use Rattle.std.proofs.Common.{◌≡◌, ◌≢◌, ℕ, ◌+◌, List, [], ◌∷◌, ◌++◌, set, false, Some, refl, sym, ap, ◌∙◌, subst, ⊎_elim, arith, true≢false}
use Rattle.std.specs.Prelude.{if◌then◌else◌, ◌==◌}
use mathlib.Core.Logic.{dite}
use native.Mathlib.Decide.{ℕ_discrete}
use Rattle.std.proofs.lemmas.Bool.Decides.{nat_tests}
use Rattle.cg_cells.specs.Meaning.{Meaning, IsLawful}
use Rattle.cg_cells.specs.Index.{place}
use Rattle.cg_cells.specs.Views.{Sizes, ViewOf, Action, a_split, a_join, a_draw, a_look, a_read, a_probe}
use Rattle.cg_cells.specs.Views.{a_claim, a_note, makes, cells_of, knows, split_off, ended, after_note}
use Rattle.cg_cells.specs.Table.{IsAllowed, SoundAndPlaced, Whole, IsLive, value_at}
use Rattle.cg_cells.specs.Steps.{Table, Step, split, join, draw, check, look, read, probe, claim, note, close}
use Rattle.cg_cells.specs.Steps.{Leads, Finds, IsSearching, Run, opening, is_close, IsOpen, IsReachable}
use Rattle.cg_cells.specs.Sure.{Sure}
use Rattle.cg_cells.proofs.Keeping.{makes_keeps, looks, reads, found, passes, won, notes, renotes}
use Rattle.cg_cells.proofs.Moving.{draws, splits, joins, opens}
use Rattle.cg_cells.proofs.Rows.{word_again, value_in}
use Rattle.cg_cells.proofs.Fitting.{known_inside, is_sure}
use Rattle.cg_cells.proofs.Totals.{none_live, at_after, at_else, set_twice}

module _ {X : Type 0} (m : Meaning X) (L : IsLawful m) (z : Sizes) where
  abbrev Holds : Table X → Type 0
  Holds s = Whole m z s.words s.views

  from : (s t : Table X) → t ≡ s → Holds s → Holds t
  from s t e h = subst Holds (sym e) h

  module _ (s t : Table X) (W : Holds s) (j : ℕ) (v : ViewOf X) (at : IsLive s.views j v) where
    -- a step of a live pass, which the pass keeps first
    keeps : (ds : List Action) (words : List ℕ) (w : ViewOf X) (f : List (ViewOf X) → List (ViewOf X)) → t ≡ record { words = words; views = f (set s.views j w) }
        → (Whole m z s.words (set s.views j (makes ds v)) → IsLive (set s.views j (makes ds v)) j (makes ds v)
        → Whole m z words (f (set (set s.views j (makes ds v)) j w)))
        → Holds t
    keeps ds words w f e step = from _ t e (subst (λ l. Whole m z words (f l)) (set_twice s.views j (makes ds v) w)
        (step (makes_keeps m L z s.words s.views W j v at ds) (at_after s.views j v (makes ds v) at.0, at.1)))

    finds : (ds : List Action) (key steps : ℕ) (thing : X) → IsSearching m v key steps → m.spells key (knows v) ≡ Some thing
        → Finds m z s j key (makes ds v) (place (cells_of z) (m.home key (cells_of z)) steps) thing t → Holds t
    finds ds key steps thing S spells = ⊎_elim
        (λ same. keeps ds s.words _ (λ l. l) same.1
        (λ M here. found m L z s.words _ M j (makes ds v) here key steps thing S.is_key S.spare spells S.goes same.0))
        (λ other. keeps ds s.words _ (λ l. l) other.2
        (λ M here. passes m L z s.words _ M j (makes ds v) here key steps thing S.is_key S.spare spells S.goes other.0 other.1))

  noted_by : (words : List ℕ) (word old value : ℕ) (views : List (ViewOf X)) → (old ≡ 0 → Whole m z (set words word (value + 1)) views)
      → (old ≢ 0 → Whole m z (set words word old) views)
      → Whole m z (set words word (if old == 0 then value + 1 else old)) views
  noted_by words word old value views a b = dite (ℕ_discrete old 0)
      (λ is. subst (λ x. Whole m z (set words word x) views) (let e : value + 1 ≡ (if old == 0 then value + 1 else old) = grind (arith, nat_tests) in e) (a is))
      (λ far. subst (λ x. Whole m z (set words word x) views) (let e : old ≡ (if old == 0 then value + 1 else old) = grind (arith, nat_tests) in e) (b far))

  -- each step but a close keeps the rule
  pub step_keeps : (s t : Table X) (x : Step) → is_close x ≡ false → Holds s → Leads m z s x t → Holds t
  step_keeps s t (split j heirs) opened W (v, at, (few, e)) = keeps s t W j v at (a_split heirs ∷ []) s.words _ (λ l. l ++ split_off heirs v ∷ []) e
      (λ M here. splits m z s.words _ M j _ here heirs few)
  step_keeps s t (join j other) opened W (v, at, (w, there, (far, p, q, e))) = keeps s t W j v at (a_join ∷ []) s.words _ (λ l. set l other ended) e
      (λ M here. joins m z s.words _ M j _ here other w far (at_else s.views j other (makes (a_join ∷ []) v) far ∙ there.0, there.1))
  step_keeps s t (draw j) opened W (v, at, (more, e)) = keeps s t W j v at (a_draw ∷ []) _ _ (λ l. l) e (λ M here. draws m z s.words _ M j _ here more)
  step_keeps s t (check j) opened W (v, at, e) = from _ t e W
  step_keeps s t (look j id) opened W (v, at, (thing, known, e)) = keeps s t W j v at (a_look id ∷ []) s.words _ (λ l. l) e
      (λ M here. looks m L z s.words _ M j _ here id thing known)
  step_keeps s t (read j id) opened W (v, at, (thing, known, e)) = keeps s t W j v at (a_read id ∷ []) s.words _ (λ l. l) e
      (λ M here. reads m L z s.words _ M j _ here id thing known)
  step_keeps s t (probe j key) opened W (v, at, (thing, steps, S, spells, how)) = ⊎_elim
      (λ empty. from _ t empty.1 (makes_keeps m L z s.words s.views W j v at (a_probe key ∷ [])))
      (finds s t W j v at (a_probe key ∷ []) key steps thing S spells)
      how
  step_keeps s t (claim j key) opened W (v, at, (thing, steps, S, spells, how)) = ⊎_elim
      (λ new. keeps s t W j v at (a_claim key ∷ []) _ _ (λ l. l) new.1
      (λ M here. won m L z s.words _ M j _ here key steps thing S.is_key S.spare spells S.goes new.0))
      (finds s t W j v at (a_claim key ∷ []) key steps thing S spells)
      how
  step_keeps s t (note j id value) opened W (v, at, (thing, due, known, known_value, must, e)) = keeps s t W j v at (a_note id value ∷ []) _ _ (λ l. l) e
      (λ M here.
      noted_by s.words (1 + cells_of z + id) (value_at (cells_of z) s.words id) value _
      (λ empty. notes m L z s.words _ M j _ here id thing known value due known_value must empty)
      (λ has.
      let inside = known_inside m L z s.words s.views W j v at id thing known in
      subst (λ ws. Whole m z ws (set (set s.views j (makes (a_note id value ∷ []) v)) j (after_note (makes (a_note id value ∷ []) v) id)))
      (sym (ap (set s.words (1 + cells_of z + id)) (value_in (cells_of z) s.words id inside) ∙ word_again s.words (1 + cells_of z + id)))
      (renotes m L z s.words _ M j _ here id thing known value due known_value must has)))
  step_keeps s t (close j) opened W h = absurd (true≢false opened)

  pub run_keeps : (xs : List Step) (s t : Table X) → IsOpen xs → Holds s → Run m z s xs t → Holds t
  run_keeps [] s t opened W e = subst Holds e W
  run_keeps (x ∷ xs) s t opened W (u, first, rest) = run_keeps xs u t opened.1 (step_keeps s u x opened.0 W first) rest

  -- any list of steps from the start that closes nothing
  pub keeps_rule : IsAllowed z → (xs : List Step) (t : Table X) → IsOpen xs → Run m z (opening z) xs t → Holds t
  keeps_rule allowed xs t opened run = run_keeps xs (opening z) t opened (opens m L z allowed) run

  pub whole_of : (t : Table X) → IsReachable m z t → Whole m z t.words t.views
  whole_of t R = keeps_rule R.allowed R.steps t R.opened R.run

  -- a pass of a table that is reached is sure of its view
  pub sure_of : (t : Table X) → IsReachable m z t → (j : ℕ) (v : ViewOf X) → IsLive t.views j v → Sure m v
  sure_of t R j v at =
      let W = whole_of t R in
      is_sure m L z t.words t.views W j v at (t, subst (λ y. IsReachable m y t) (sym (W.each j v at).sized) R, (j, at))

  -- a close leaves sound words and no live pass
  pub closes : IsAllowed z → (xs : List Step) (j : ℕ) (s t : Table X) → IsOpen xs → Run m z (opening z) xs s → Leads m z s (close j) t
      → SoundAndPlaced m (cells_of z) t.words × ((i : ℕ) (v : ViewOf X) → ¬ IsLive t.views i v)
  closes allowed xs j s t opened run (v, at, e) =
      let W = keeps_rule allowed xs s opened run in (
        subst (λ (t : Table X). SoundAndPlaced m (cells_of z) t.words) (sym e) W.cells,
        λ i w h. none_live s.views ended refl i w (subst (λ (t : Table X). IsLive t.views i w) e h),
      )

  -- no step can be made where no pass is live
  pub needs_live : (s t : Table X) (x : Step) → ((i : ℕ) (v : ViewOf X) → ¬ IsLive s.views i v) → ¬ Leads m z s x t
  needs_live s t (split j heirs) none (v, at, rest) = none j v at
  needs_live s t (join j other) none (v, at, rest) = none j v at
  needs_live s t (draw j) none (v, at, rest) = none j v at
  needs_live s t (check j) none (v, at, rest) = none j v at
  needs_live s t (look j id) none (v, at, rest) = none j v at
  needs_live s t (read j id) none (v, at, rest) = none j v at
  needs_live s t (probe j key) none (v, at, rest) = none j v at
  needs_live s t (claim j key) none (v, at, rest) = none j v at
  needs_live s t (note j id value) none (v, at, rest) = none j v at
  needs_live s t (close j) none (v, at, rest) = none j v at

module _ {X : Type 0} (m : Meaning X) (z : Sizes) where
  pub reachable_start : IsAllowed z → IsReachable m z (opening z)
  reachable_start allowed = record { allowed = allowed; steps = []; opened = tt; run = refl }

  run_more : (xs : List Step) (s t u : Table X) (x : Step) → Run m z s xs t → Leads m z t x u → Run m z s (xs ++ x ∷ []) u
  run_more [] s t u x e leads = (u, subst (λ (s : Table X). Leads m z s x u) (sym e) leads, refl)
  run_more (y ∷ ys) s t u x (r, first, rest) leads = (r, first, run_more ys r t u x rest leads)

  open_more : (xs : List Step) (x : Step) → IsOpen xs → is_close x ≡ false → IsOpen (xs ++ x ∷ [])
  open_more [] x opened e = (e, tt)
  open_more (y ∷ ys) x opened e = (opened.0, open_more ys x opened.1 e)

  -- one more step that closes nothing
  pub one_more : (s t : Table X) (x : Step) → IsReachable m z s → Leads m z s x t → is_close x ≡ false → IsReachable m z t
  one_more s t x R leads e = record {
    allowed = R.allowed;
    steps = R.steps ++ x ∷ [];
    opened = open_more R.steps x R.opened e;
    run = run_more R.steps (opening z) s t x R.run leads;
  }

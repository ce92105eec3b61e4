-- A table that was closed: its words, copied, and what a store of them knows.
use Rattle.std.proofs.Common.{◌≡◌, ℕ, zero, suc, ◌+◌, ◌<◌, List, [], ◌∷◌, ◌++◌, length, false, Result, Ok, Err, IfOk, refl, sym, ap, ◌∙◌, subst, arith}
use Rattle.std.specs.Prelude.{slice_index}
use Rattle.std.specs.FinMap as map
use mathlib.Core.Logic.{dite}
use mathlib.Core.Option.{some, some-injective, some-ne-none}
use native.Mathlib.Decide.{ℕ_discrete}
use lib.ListN.{get_elem?}
use Rattle.atomic_table.specs.Table.{State, Final, Seen}
use Rattle.cg_shared.specs.declared.view.Plan.{Plan}
use Rattle.cg_cells.specs.Meaning.{Meaning, Has, Grows, IsLawful}
use Rattle.cg_cells.specs.Words.{IsStore, things_of, marked}
use Rattle.cg_cells.specs.Views.{ViewOf, cells_of, knows}
use Rattle.cg_cells.specs.Table.{Whole}
use Rattle.cg_cells.specs.Steps.{IsOutcome}
use Rattle.cg_cells.proofs.Runs.{whole_of}
use Rattle.cg_cells.proofs.Finishing.{finished, finished_knows, finished_noted, finished_words}
use Rattle.cg_shared.specs.Plays.{sizes_of, table_of, Kept}

pub ok_map : {A E : Type 0} (P Q : A → Type 0) → ((x : A) → P x → Q x) → (r : Result A E) → IfOk r P → IfOk r Q
ok_map P Q f (Ok x) h = f x h
ok_map P Q f (Err e) h = tt

at_left : (l : List ℕ) (x k : ℕ) → k < length l → slice_index (l ++ x ∷ []) k ≡ slice_index l k
at_left [] x k h = absurd (omega arith)
at_left (y ∷ l) x zero h = refl
at_left (y ∷ l) x (suc k) h = at_left l x k (omega arith)

at_end : (l : List ℕ) (x : ℕ) → slice_index (l ++ x ∷ []) (length l) ≡ x
at_end [] x = refl
at_end (y ∷ l) x = at_end l x

-- one word more
pub longer : (l : List ℕ) (x : ℕ) → length (l ++ x ∷ []) ≡ length l + 1
longer [] x = refl
longer (y ∷ l) x = let p = longer l x in omega arith

word_is : (l : List ℕ) (i x : ℕ) → get_elem? l i ≡ some x → slice_index l i ≡ x
word_is [] i x e = absurd (some-ne-none x (sym e))
word_is (y ∷ l) zero x e = some-injective y x e
word_is (y ∷ l) (suc i) x e = word_is l i x e

-- one more word, copied
pub copied : (items new words : List ℕ) (x n first : ℕ) → new ≡ items ++ x ∷ [] → length items ≡ n → ((k : ℕ) → k < n → slice_index items k ≡ slice_index words (first + k)) → get_elem? words (first + n) ≡ some x
    → (length new ≡ n + 1) × ((k : ℕ) → k < n + 1 → slice_index new k ≡ slice_index words (first + k))
copied items new words x n first is long same at = subst (λ new. (length new ≡ n + 1) × ((k : ℕ) → k < n + 1 → slice_index new k ≡ slice_index words (first + k))) (sym is) (
  longer items x ∙ ap (λ k. k + 1) long,
  λ k lt. dite (ℕ_discrete k n)
      (λ last. ap (slice_index (items ++ x ∷ [])) (last ∙ sym long) ∙ at_end items x ∙ sym (word_is words (first + n) x at) ∙ ap (λ k. slice_index words (first + k)) (sym last))
      (λ far. at_left items x k (omega arith) ∙ same k (omega arith)),
)

module _ {S X : Type 0} (m : Meaning X) (L : IsLawful m) (plan : Plan) (id : ℕ) (v : ViewOf X) (alive : v.gone ≡ false) (ws : List ℕ) (xs : List S) (F : Final (Seen (Kept m plan) id v) ws xs)
    (size : ℕ) (size_is : size ≡ cells_of (sizes_of plan)) (keys values : List ℕ) (long_keys : length keys ≡ size) (long_values : length values ≡ size)
    (keys_are : (i : ℕ) → i < size → slice_index keys i ≡ slice_index ws (1 + i)) (values_are : (i : ℕ) → i < size → slice_index values i ≡ slice_index ws (1 + size + i)) where
  abbrev s : State S (ViewOf X)
  s = F.0

  W : Whole m (sizes_of plan) F.0.words F.0.views
  W = whole_of m L (sizes_of plan) (table_of F.0) F.1.0

  keys_in : (i : ℕ) → i < cells_of (sizes_of plan) → slice_index keys i ≡ slice_index F.0.words (1 + i)
  keys_in i lt = keys_are i (omega (arith, size_is)) ∙ ap (λ l. slice_index l (1 + i)) (sym F.2)

  values_in : (i : ℕ) → i < cells_of (sizes_of plan) → slice_index values i ≡ slice_index F.0.words (1 + cells_of (sizes_of plan) + i)
  values_in i lt = values_are i (omega (arith, size_is)) ∙ ap (λ l. slice_index l (1 + size + i)) (sym F.2) ∙ ap (λ n. slice_index F.0.words (1 + n + i)) size_is

  pub end_store : (spare : ℕ) → spare ≡ v.spare → IsStore m (record { keys = keys; values = values; spare = spare })
  end_store spare is = subst (λ n. IsStore m (record { keys = keys; values = values; spare = n })) (sym is)
      (finished m L (sizes_of plan) s.words s.views W id v (F.1.1, alive) keys values (long_keys ∙ size_is) (long_values ∙ size_is) keys_in values_in)

  pub end_knows : Grows (knows v) (map.get (things_of m keys))
  end_knows = finished_knows m L (sizes_of plan) s.words s.views W id v (F.1.1, alive) keys values (long_keys ∙ size_is) (long_values ∙ size_is) keys_in values_in

  pub end_noted : (i : ℕ) → Has v.noted i → Has (marked 0 values) i
  end_noted = finished_noted m L (sizes_of plan) s.words s.views W id v (F.1.1, alive) keys values (long_keys ∙ size_is) (long_values ∙ size_is) keys_in values_in

  -- and the words and the pass come of some list of steps
  pub end_reached : IsOutcome m (sizes_of plan) keys values v
  end_reached = (
    table_of s,
    F.1.0,
    finished_words m L (sizes_of plan) s.words s.views W id v (F.1.1, alive) keys values (long_keys ∙ size_is) (long_values ∙ size_is) keys_in values_in,
    (id, (F.1.1, alive)),
  )

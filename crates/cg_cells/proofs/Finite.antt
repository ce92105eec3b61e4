-- What a key spells under a map it spells under the finite map of the ids that it names.
use Rattle.std.proofs.Common.{◌≡◌, ◌⊎◌, ℕ, List, [], ◌∷◌, Option, Some, None, nat_cmp, refl, sym, ap, ◌∙◌, subst, inl, inr, ⊎_elim}
use Rattle.std.specs.FinMap as map
use Rattle.std.specs.Cmp.{nat_cmp_total}
use mathlib.Core.Logic.{dite}
use native.Mathlib.Decide.{ℕ_discrete}
use Rattle.cg_cells.specs.Parts.{names_of}
use Rattle.cg_cells.specs.Meaning.{Has, Meaning, IsLawful, SpellsUnderFinite}
use Rattle.cg_cells.specs.Words.{entry}
use Rattle.cg_cells.proofs.Levels.{None_not}
use Rattle.cg_cells.proofs.Maps.{first_here, first_else, entry_else}

module _ {X : Type 0} where
  pairs : (ℕ → Option X) → List ℕ → List (ℕ × X)
  pairs f [] = []
  pairs f (i ∷ is) = entry i (f i) (pairs f is)

  -- the finite map of these ids that have a thing
  pub gather : (ℕ → Option X) → List ℕ → map.FinMap nat_cmp X
  gather f ids = map.from_entries (pairs f ids)

  find_entry : (i j : ℕ) (o : Option X) (es : List (ℕ × X)) → map.find nat_cmp j (entry i o es) ≡ map.find nat_cmp j es ⊎ ((j ≡ i) × (map.find nat_cmp j (entry i o es) ≡ o))
  find_entry i j None es = inl refl
  find_entry i j (Some t) es = dite (ℕ_discrete j i) (λ is. inr (is, subst (λ y. map.find nat_cmp y ((i, t) ∷ es) ≡ Some t) (sym is) (first_here es i t))) (λ far. inl (first_else es i j t far))

  only : (f : ℕ → Option X) (ids : List ℕ) (j : ℕ) (t : X) → map.find nat_cmp j (pairs f ids) ≡ Some t → f j ≡ Some t
  unfolding pairs
  only f [] j t e = absurd (None_not e)
  only f (i ∷ is) j t e = ⊎_elim
      (λ same. only f is j t (sym same ∙ e))
      (λ (here : (j ≡ i) × (map.find nat_cmp j (entry i (f i) (pairs f is)) ≡ f i)). ap f here.0 ∙ sym here.1 ∙ e)
      (find_entry i j (f i) (pairs f is))

  all : (f : ℕ → Option X) (ids : List ℕ) (j : ℕ) (t : X) → Has ids j → f j ≡ Some t → map.find nat_cmp j (pairs f ids) ≡ Some t
  unfolding pairs
  all f [] j t h e = absurd h
  all f (i ∷ is) j t h e = dite (ℕ_discrete j i)
      (λ same. subst (λ o. map.find nat_cmp j (entry i o (pairs f is)) ≡ Some t) (sym (ap f (sym same) ∙ e)) (subst (λ y. map.find nat_cmp y ((i, t) ∷ pairs f is) ≡ Some t) (sym same) (first_here (pairs f is) i t)))
      (λ far. entry_else j i (f i) (pairs f is) far ∙ all f is j t (⊎_elim (λ same. absurd (far (sym same))) (λ there. there) h) e)

module _ {X : Type 0} (m : Meaning X) (L : IsLawful m) where
  unfold_get : (f : ℕ → Option X) (ids : List ℕ) (j : ℕ) → map.get (gather f ids) j ≡ map.find nat_cmp j (pairs f ids)
  unfolding gather
  unfold_get f ids j = map.get-from_entries nat_cmp_total (pairs f ids) j

  pub finite : (k : ℕ) (f : ℕ → Option X) (t : X) → m.spells k f ≡ Some t → SpellsUnderFinite m k f t
  finite k f t e = record {
    known = gather f (names_of k);
    part_of = λ i u h. only f (names_of k) i u (sym (unfold_get f (names_of k) i) ∙ h);
    spells = L.reads_parts k f (map.get (gather f (names_of k))) t e
        (λ id h. let p = L.names_parts k f t e id h in unfold_get f (names_of k) id ∙ all f (names_of k) id (m.part k t id) h p ∙ sym p);
  }

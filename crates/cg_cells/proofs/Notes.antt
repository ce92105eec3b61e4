-- A note in an empty value word.
use Rattle.std.proofs.Common.{◌≡◌, ◌≢◌, ℕ, ◌+◌, ◌-◌, Some, None, Option, IsSome, refl, sym, ap, ◌∙◌, subst, arith}
use mathlib.Core.Logic.{dite}
use native.Mathlib.Decide.{ℕ_discrete}
use Rattle.cg_cells.specs.Meaning.{Meaning, note_for, Sound, Stands}

module _ {X : Type 0} (m : Meaning X) (keys values values' : ℕ → ℕ) (i value : ℕ) (t v : X) where
  -- the value word of the cell i, which stands for t, comes to name a cell that stands for the thing that a note on t must spell
  pub noted_sound : Sound m keys values → Stands m keys i t → m.note_of t ≡ Some v → Stands m keys value v → values' i ≡ value + 1 → ((j : ℕ) → j ≢ i → values' j ≡ values j) → Sound m keys values'
  noted_sound P here must there is others = record {
    once = P.once;
    stand = P.stand;
    apart = P.apart;
    notes = λ j has. dite (ℕ_discrete j i)
        (λ same.
        let e : values' j - 1 ≡ value = let w = ap values' same ∙ is in omega arith in
        (t, v, subst (λ y. Stands m keys y t) (sym same) here, must, subst (λ y. Stands m keys y v) (sym e) there))
        (λ far.
        let w = others j far in
        let r = P.notes j (λ z. has (w ∙ z)) in
        (r.0, r.1, r.2, r.3, subst (λ y. Stands m keys (y - 1) r.1) (sym w) r.4));
  }

pub some_is : {X : Type 0} (o : Option X) → IsSome o → (t : X) × (o ≡ Some t)
some_is None h = cc
some_is (Some t) h = (t, refl)

pub is_some : {X : Type 0} (o : Option X) (t : X) → o ≡ Some t → IsSome o
is_some {X} o t e = subst IsSome (sym e) refl

-- a note may stand only on a thing
pub noted_thing : {X : Type 0} (m : Meaning X) (o : Option X) (v : X) → note_for m o ≡ Some v → (t : X) × (o ≡ Some t) × (m.note_of t ≡ Some v)
noted_thing m None v e = cc
noted_thing m (Some t) v e = (t, refl, e)

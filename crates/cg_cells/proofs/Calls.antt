-- What a call on a store in plain memory reads at a known id: w is what its fields have, and v what a caller sees.
use Rattle.std.proofs.Common.{◌≡◌, ◌≢◌, ℕ, ◌+◌, ◌-◌, ◌<◌, ◌^◌, Some, IsSome, length, get_or, set, refl, sym, ap, ◌∙◌, subst, arith}
use Rattle.std.specs.Prelude.{slice_index}
use Rattle.std.specs.FinMap as map
use Rattle.cg_cells.specs.Meaning.{note_for, Has, Meaning, IsLawful}
use Rattle.cg_cells.specs.Store.{Spends}
use Rattle.cg_cells.specs.Words.{Words, IsStore, things_of, state_of, marked}
use Rattle.cg_cells.proofs.Plains.{any_default, known_inside, known_key, note_due, IsNote, value_note, no_note, note_sound, note_marks, note_keeps}

module _ {X : Type 0} (m : Meaning X) (L : IsLawful m) (w v : Words) (same : w ≡ v) (P : IsStore m w) where
  pub seen : IsStore m v
  seen = subst (IsStore m) same P

  module _ (id n : ℕ) (is : n ≡ id) (known : IsSome (map.get (things_of m v.keys) id)) where
    pub in_keys : n < length w.keys
    in_keys = let lt = known_inside m L v seen id known in let e = ap (λ x. length x.keys) same in omega arith

    pub in_values : n < length w.values
    in_values = let a = in_keys in let b = P.same_length in omega arith

    pub key_read : (x : ℕ) → x ≡ get_or w.keys n x → x ≡ slice_index v.keys id
    key_read x e = e ∙ any_default w.keys n x in_keys ∙ ap (slice_index w.keys) is ∙ ap (λ y. slice_index y.keys id) same

    pub key_there : (x : ℕ) → x ≡ get_or w.keys n x → x ≢ 0
    key_there x e z = known_key m L v seen id known (sym (key_read x e) ∙ z)

    pub value_read : (x : ℕ) → x ≡ get_or w.values n x → x ≡ slice_index v.values id
    value_read x e = e ∙ any_default w.values n x in_values ∙ ap (slice_index w.values) is ∙ ap (λ y. slice_index y.values id) same

    -- no value word
    pub none_read : (x : ℕ) → x ≡ get_or w.values n x → x ≡ 0 → ¬ Has (marked 0 v.values) id
    none_read x e z = no_note m L v seen id (sym (value_read x e) ∙ z)

    pub some_read : (x : ℕ) → x ≡ get_or w.values n x → x ≢ 0 → IsNote m L v seen id
    some_read x e far = value_note m L v seen id (λ z. far (value_read x e ∙ z))

    pub value_small : (x : ℕ) → x ≡ get_or w.values n x → x ≢ 0 → x - 1 < 2 ^ 26
    value_small x e far = let r = (some_read x e far).in_range in let a = value_read x e in omega arith

    -- the value of a value word is known, as what the note must spell
    pub value_known : (x r : ℕ) → x ≡ get_or w.values n x → x ≢ 0 → r ≡ x - 1 → IsSome (map.get (things_of m v.keys) r) × (map.get (things_of m v.keys) r ≡ note_for m (map.get (things_of m v.keys) id))
    value_known x r e far at =
        let N = some_read x e far in
        subst (λ y. IsSome (map.get (things_of m v.keys) y) × (map.get (things_of m v.keys) y ≡ note_for m (map.get (things_of m v.keys) id))) (sym (at ∙ ap (λ y. y - 1) (value_read x e))) (N.known, N.due)

    module _ (value k : ℕ) (is_value : k ≡ value) (known_value : IsSome (map.get (things_of m v.keys) value)) (due : map.get (things_of m v.keys) value ≡ note_for m (map.get (things_of m v.keys) id)) where
      abbrev after : Words
      after = record w { values = set w.values n (k + 1) }

      known_in : IsSome (map.get (things_of m w.keys) k)
      known_in = subst (λ x. IsSome (map.get (things_of m x.keys) k)) (sym same) (subst (λ x. IsSome (map.get (things_of m v.keys) x)) (sym is_value) known_value)

      due_in : map.get (things_of m w.keys) k ≡ note_for m (map.get (things_of m w.keys) n)
      due_in = subst (λ x. map.get (things_of m x.keys) k ≡ note_for m (map.get (things_of m x.keys) n)) (sym same)
          (ap (map.get (things_of m v.keys)) is_value ∙ due ∙ ap (λ x. note_for m (map.get (things_of m v.keys) x)) (sym is))

      pub noted_store : IsStore m after
      noted_store = let d = note_due m L w P n k known_in due_in in note_sound m L w P n k d.thing d.note d.here d.there d.must

      pub noted_there : Has (marked 0 (set w.values n (k + 1))) id
      noted_there = let d = note_due m L w P n k known_in due_in in subst (λ x. Has (marked 0 (set w.values n (k + 1))) x) is (note_marks m L w P n k d.thing d.note d.here d.there d.must)

      pub noted_spends : Spends 0 (state_of m v) (state_of m after)
      noted_spends = let d = note_due m L w P n k known_in due_in in record {
        known = λ i u h. subst (λ x. map.get (things_of m x.keys) i ≡ Some u) (sym same) h;
        noted = λ x h. note_keeps m L w P n k d.thing d.note d.here d.there d.must x (subst (λ l. Has (marked 0 l) x) (ap (λ z. z.values) (sym same)) h);
        spare = let s = ap (λ z. z.spare) same in omega arith;
        rest = refl;
      }

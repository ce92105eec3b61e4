-- A cell that stands for a thing does so at the level of the number of cells.
use Rattle.std.proofs.Common.{◌≡◌, ◌⊎◌, ℕ, zero, suc, ◌+◌, ◌<◌, ◌≤◌, length, Option, Some, None, refl, sym, ap, ◌∙◌, subst, inl, inr, ⊎_elim, arith, nat_cmp}
use Rattle.std.specs.Prelude.{slice_index}
use Rattle.std.specs.FinMap as map
use Rattle.std.specs.Cmp.{nat_cmp_total}
use Rattle.std.proofs.lemmas.List.{get_or_past}
use mathlib.Core.Logic.{dite}
use native.Mathlib.Decide.{ℕ_discrete, dec_le, dec_lt}
use Rattle.cg_cells.specs.Meaning.{Meaning, Grows, IsLawful, level, Stands}
use Rattle.cg_cells.specs.Words.{Words, entries_of, things_of}
use Rattle.cg_cells.proofs.Levels.{None_not, spelled_grows, level_suc, stands_one, stands_key}
use Rattle.cg_cells.proofs.Maps.{entry_here, entry_else}

module _ {X : Type 0} where
  abbrev pub one_some : Option X → ℕ
  one_some None = 0
  one_some (Some t) = 1

  abbrev pub count : (ℕ → Option X) → ℕ → ℕ
  count f zero = 0
  count f (suc n) = count f n + one_some (f n)

  one_grows : (o p : Option X) → ((t : X) → o ≡ Some t → p ≡ Some t) → one_some o ≤ one_some p
  one_grows None p h = omega arith
  one_grows (Some t) p h = let e : one_some p ≡ 1 = ap one_some (h t refl) in omega arith

  one_back : (o p : Option X) → ((t : X) → o ≡ Some t → p ≡ Some t) → one_some p ≤ one_some o → (t : X) → p ≡ Some t → o ≡ Some t
  one_back None p h le t e = let q : one_some p ≡ 1 = ap one_some e in absurd (omega arith)
  one_back (Some u) p h le t e = sym (h u refl) ∙ e

  one_most : (o : Option X) → one_some o ≤ 1
  one_most None = omega arith
  one_most (Some t) = omega arith

  pub count_grows : (f g : ℕ → Option X) → Grows f g → (n : ℕ) → count f n ≤ count g n
  count_grows f g h zero = omega arith
  count_grows f g h (suc n) = let a = count_grows f g h n in let b = one_grows (f n) (g n) (h n) in omega arith

  pub count_most : (f : ℕ → Option X) (n : ℕ) → count f n ≤ n
  count_most f zero = omega arith
  count_most f (suc n) = let a = count_most f n in let b = one_most (f n) in omega arith

  -- a map that grew and counts no more is the same
  pub count_back : (f g : ℕ → Option X) → Grows f g → (n : ℕ) → count g n ≤ count f n → (i : ℕ) (t : X) → i < n → g i ≡ Some t → f i ≡ Some t
  count_back f g h zero le i t lt e = absurd (omega arith)
  count_back f g h (suc n) le i t lt e =
      let a = count_grows f g h n in
      let b = one_grows (f n) (g n) (h n) in
      dite (ℕ_discrete i n)
      (λ is. subst (λ y. f y ≡ Some t) (sym is) (one_back (f n) (g n) (h n) (omega arith) t (subst (λ y. g y ≡ Some t) is e)))
      (λ far. count_back f g h n (omega arith) i t (omega arith) e)

  count_full : (f : ℕ → Option X) (n : ℕ) → n ≤ count f n → (i : ℕ) → i < n → (t : X) × (f i ≡ Some t)
  count_full f zero full i lt = absurd (omega arith)
  count_full f (suc n) full i lt =
      let a = count_most f n in
      dite (ℕ_discrete i n)
      (λ is. subst (λ y. (t : X) × (f y ≡ Some t)) (sym is) (has (f n) (let b = one_most (f n) in omega arith)))
      (λ far. count_full f n (let b = one_most (f n) in omega arith) i (omega arith))
    where
      has : (o : Option X) → 1 ≤ one_some o → (t : X) × (o ≡ Some t)
      has None h = absurd (omega arith)
      has (Some t) h = (t, refl)

module _ {X : Type 0} (m : Meaning X) (L : IsLawful m) (keys : ℕ → ℕ) (size : ℕ) (past : (i : ℕ) → size ≤ i → keys i ≡ 0) where
  Full : ℕ → Type 0
  Full n = (k : ℕ) → Grows (level m keys k) (level m keys n)

  inside : (k i : ℕ) (t : X) → level m keys k i ≡ Some t → i < size
  inside k i t e = dite (dec_lt i size) (λ lt. lt) (λ ge. absurd (stands_key m L keys i t (k, e) (past i (omega arith))))

  -- no level is more than one that is as the next
  stops : (n : ℕ) → Grows (level m keys (suc n)) (level m keys n) → Full n
  unfolding Full
  stops n same zero i t e = absurd (None_not e)
  stops n same (suc k) i t e = same i t (spelled_grows m L (keys i) (level m keys k) (level m keys n) t (stops n same k) e)

  climbs : (n : ℕ) → Full n ⊎ (n ≤ count (level m keys n) size)
  unfolding Full
  climbs zero = inr (omega arith)
  climbs (suc n) = ⊎_elim
      (λ full. inl (λ k i t e. level_suc m L keys n i t (full k i t e)))
      (λ more. dite (dec_le (count (level m keys (suc n)) size) (count (level m keys n) size))
      (λ le. inl (λ k i t e. level_suc m L keys n i t (stops n (λ j u h. count_back (level m keys n) (level m keys (suc n)) (level_suc m L keys n) size le j u (inside (suc n) j u h) h) k i t e)))
      (λ gt. inr (omega arith)))
      (climbs n)

  pub full_level : (k : ℕ) → Grows (level m keys k) (level m keys size)
  unfolding Full
  full_level k i t e = ⊎_elim
      (λ full. full k i t e)
      (λ all. let r = count_full (level m keys size) size all i (inside k i t e) in r.1 ∙ ap Some (stands_one m L keys i r.0 t (size, r.1) (k, e)))
      (climbs size)

module _ {X : Type 0} where
  none_past : (f : ℕ → Option X) (n i : ℕ) → n ≤ i → map.find nat_cmp i (entries_of f n) ≡ None
  none_past f zero i h = refl
  none_past f (suc n) i h = entry_else i n (f n) (entries_of f n) (λ e. absurd (omega arith)) ∙ none_past f n i (omega arith)

  find_entries : (f : ℕ → Option X) (n i : ℕ) → i < n → map.find nat_cmp i (entries_of f n) ≡ f i
  find_entries f zero i lt = absurd (omega arith)
  find_entries f (suc n) i lt = dite (ℕ_discrete i n)
      (λ is. subst (λ y. map.find nat_cmp y (entries_of f (suc n)) ≡ f y) (sym is) (entry_here n (f n) (entries_of f n) (none_past f n n (omega arith))))
      (λ far. entry_else i n (f n) (entries_of f n) far ∙ find_entries f n i (omega arith))

module _ {X : Type 0} (m : Meaning X) (L : IsLawful m) (w : Words) where
  ends : (i : ℕ) → length w.keys ≤ i → slice_index w.keys i ≡ 0
  ends i h = get_or_past w.keys i 0 h

  -- known is what stands
  pub known_stands : (i : ℕ) (t : X) → map.get (things_of m w.keys) i ≡ Some t → Stands m (slice_index w.keys) i t
  unfolding things_of
  known_stands i t e =
      let f = level m (slice_index w.keys) (length w.keys) in
      let g = sym (map.get-from_entries nat_cmp_total (entries_of f (length w.keys)) i) ∙ e in
      dite (dec_lt i (length w.keys))
      (λ lt. (length w.keys, sym (find_entries f (length w.keys) i lt) ∙ g))
      (λ ge. absurd (None_not (sym (none_past f (length w.keys) i (omega arith)) ∙ g)))

  pub stands_known : (i : ℕ) (t : X) → Stands m (slice_index w.keys) i t → map.get (things_of m w.keys) i ≡ Some t
  unfolding things_of
  stands_known i t s =
      let f = level m (slice_index w.keys) (length w.keys) in
      let lt = inside m L (slice_index w.keys) (length w.keys) ends s.0 i t s.1 in
      map.get-from_entries nat_cmp_total (entries_of f (length w.keys)) i ∙ find_entries f (length w.keys) i lt ∙ full_level m L (slice_index w.keys) (length w.keys) ends s.0 i t s.1

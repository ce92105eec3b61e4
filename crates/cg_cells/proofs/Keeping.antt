-- Steps that leave the counter as it is keep the rule: a look, a claim, a note.
use Rattle.std.proofs.Common.{◌≡◌, ◌≢◌, ℕ, zero, suc, ◌+◌, ◌-◌, ◌*◌, ◌<◌, ◌≤◌, min, List, length, set, false}
use Rattle.std.proofs.Common.{Option, Some, None, refl, sym, ap, ◌∙◌, subst, ⊎_elim, arith, length-set}
use Rattle.std.specs.Prelude.{slice_index, if◌then◌else◌, nat_lt}
use mathlib.Core.Logic.{dite}
use native.Mathlib.Decide.{ℕ_discrete}
use Rattle.cg_cells.specs.Parts.{names_of}
use Rattle.cg_cells.specs.Meaning.{Meaning, Has, IsLawful, Stands, Sound, level}
use Rattle.cg_cells.specs.Index.{place}
use Rattle.cg_cells.specs.Words.{filled}
use Rattle.cg_cells.specs.Views.{Sizes, ViewOf, Action, makes, cells_of, knows, searched, after_look, after_read, after_claim, after_pass, after_note}
use Rattle.cg_cells.specs.Table.{Fits, Whole, Tells, IsLive, IsPlaced, HasPassed, key_at, value_at, total, times, passes_of, may_draw}
use Rattle.cg_cells.specs.Steps.{GoesOn}
use Rattle.cg_cells.proofs.Levels.{same_Some, None_not, KeepsKeys, stands_one, stands_keeps, stands_key, stands_spells, part_stands, spells_stands}
use Rattle.cg_cells.proofs.Claims.{filled-new, claimed_sound, keeps, new_stands}
use Rattle.cg_cells.proofs.Notes.{noted_sound}
use Rattle.cg_cells.proofs.Entries.{learned, learn_has, entered}
use Rattle.cg_cells.proofs.Fitting.{fits_keeps, knows_stands, known_inside, has_room}
use Rattle.cg_cells.proofs.Homes.{not_round, is_absent, placed_new}
use Rattle.cg_cells.proofs.Indexes.{place_inside}
use Rattle.cg_cells.proofs.Rows.{key_set, value_set, key_else, value_else, keys_else, values_else, count_else, key_inside}
use Rattle.cg_cells.proofs.Totals.{each_set, total_set}

module _ {X : Type 0} (m : Meaning X) (L : IsLawful m) (z : Sizes) (words : List ℕ) (views : List (ViewOf X)) (W : Whole m z words views) (j : ℕ) (v : ViewOf X) (at : IsLive views j v) where
  abbrev keys : ℕ → ℕ
  keys = key_at (cells_of z) words

  abbrev values : ℕ → ℕ
  values = value_at (cells_of z) words

  abbrev F : Fits m z (slice_index words 0) (key_at (cells_of z) words) (value_at (cells_of z) words) v
  F = W.each j v at

  -- a view that owns what v owns, but perhaps for a claim that is spent
  pub record Owns (w : ViewOf X) : Type 0 where
    pub alive : w.gone ≡ false
    pub spare : w.spare ≤ v.spare
    pub passes : passes_of w ≡ passes_of v
    pub draws : may_draw w ≡ may_draw v
    pub tickets : w.tickets ≡ v.tickets

  -- words that stay but for empty ones, and a view that pays for the cell that was filled
  kept : (words' : List ℕ) (w : ViewOf X) → length words' ≡ length words → slice_index words' 0 ≡ slice_index words 0
      → KeepsKeys keys (key_at (cells_of z) words') → KeepsKeys values (value_at (cells_of z) words')
      → Sound m (key_at (cells_of z) words') (value_at (cells_of z) words')
      → ((i : ℕ) → key_at (cells_of z) words' i ≢ 0 → IsPlaced (cells_of z) (key_at (cells_of z) words') (m.home (key_at (cells_of z) words' i) (cells_of z)) i)
      → Fits m z (slice_index words 0) (key_at (cells_of z) words') (value_at (cells_of z) words') w
      → Owns w → filled (key_at (cells_of z) words') (cells_of z) + w.spare ≤ filled keys (cells_of z) + v.spare
      → Whole m z words' (set views j w)
  kept words' w long same kk kv sound placed fits O paid = record {
    allowed = W.allowed;
    long = long ∙ W.long;
    cells = record { sound = sound; placed = placed };
    each = each_set (Fits m z (slice_index words' 0) (key_at (cells_of z) words') (value_at (cells_of z) words')) views j w
        (λ i u e. fits_keeps m L z (slice_index words 0) (slice_index words' 0) keys (key_at (cells_of z) words') values (value_at (cells_of z) words') u (omega arith) kk kv (W.each i u e))
        (λ _. subst (λ c. Fits m z c (key_at (cells_of z) words') (value_at (cells_of z) words') w) (sym same) fits);
    enough = subst (λ c. filled (key_at (cells_of z) words') (cells_of z) + total (λ u. u.spare) (set views j w) ≤ z.share * min c z.lines) (sym same)
        (let t = total_set (λ u. u.spare) views j v w at O.alive in let e = W.enough in omega arith);
    drawn = λ n.
        let t = total_set (λ u. times n u.tickets) views j v w at O.alive in
        let e : times n w.tickets ≡ times n v.tickets = ap (times n) O.tickets in
        let d : total (λ u. times n u.tickets) (set views j w) ≡ total (λ u. times n u.tickets) views = omega arith in
        d ∙ W.drawn n ∙ ap (λ c. if nat_lt n (min c z.lines) then 1 else 0) (sym same);
    counted = let t = total_set passes_of views j v w at O.alive in let e = W.counted in let p = O.passes in omega arith;
    excess = subst (λ c. (c - z.lines) + total may_draw (set views j w) ≤ z.passes) (sym same)
        (let t = total_set may_draw views j v w at O.alive in let e = W.excess in let p = O.draws in omega arith);
  }

  -- no word changes
  viewed : (w : ViewOf X) → Fits m z (slice_index words 0) keys values w → Owns w → Whole m z words (set views j w)
  viewed w fits O = kept words w refl refl (λ i h. refl) (λ i h. refl) W.cells.sound W.cells.placed fits O (let s = O.spare in omega arith)

  -- a pass keeps the steps that it makes
  pub makes_keeps : (ds : List Action) → Whole m z words (set views j (makes ds v))
  makes_keeps ds = viewed (makes ds v)
      (record { sized = F.sized; stands = F.stands; over = F.over; probes = F.probes; noted = F.noted })
      (record { alive = at.1; spare = omega arith; passes = refl; draws = refl; tickets = refl })

  module _ (id : ℕ) (t : X) (known : knows v id ≡ Some t) where
    here : Stands m keys id t
    here = knows_stands m L z words views W j v at id t known

    -- a look at a key word
    pub looks : Whole m z words (set views j (after_look m v (keys id) t))
    looks = viewed (after_look m v (keys id) t)
        (record {
          sized = F.sized;
          stands = λ i u e. ⊎_elim
              (λ (a : Has (names_of (keys id)) i × (m.part (keys id) t i ≡ u)). subst (Stands m keys i) a.1 (part_stands m L keys id t here i a.0))
              (λ b. F.stands i u b)
              (learned v.known (names_of (keys id)) (m.part (keys id) t) i u e);
          over = F.over;
          probes = F.probes;
          noted = F.noted;
        })
        (record { alive = at.1; spare = omega arith; passes = refl; draws = refl; tickets = refl })

    -- the key is there, and spells the thing under what is then known
    pub looked_key : keys id ≢ 0
    looked_key = stands_key m L keys id t here

    pub looked_spells : ((i : ℕ) (u : X) → Tells (after_look m v (keys id) t).known i u → knows (after_look m v (keys id) t) i ≡ Some u)
        → m.spells (keys id) (knows (after_look m v (keys id) t)) ≡ Some t
    looked_spells one =
        let r = stands_spells m L keys id t here in
        L.reads_parts (keys id) (level m keys r.0) (knows (after_look m v (keys id) t)) t r.1
        (λ i h. one i _ (learn_has v.known (names_of (keys id)) (m.part (keys id) t) i h) ∙ sym (L.names_parts (keys id) (level m keys r.0) t r.1 i h))

    -- what a value word that isn't 0 tells
    pub record IsValue (value : ℕ) : Type 0 where
      pub due : X
      pub must : m.note_of t ≡ Some due
      pub stands : Stands m keys value due
      pub inside : value < cells_of z

    pub value_is : (value : ℕ) → values id ≡ suc value → IsValue value
    value_is value e =
        let N = W.cells.sound.notes id (λ z. absurd (omega arith)) in
        let same : N.0 ≡ t = stands_one m L keys id N.0 t N.2 here in
        let less : values id - 1 ≡ value = omega arith in
        let there = subst (λ i. Stands m keys i N.1) less N.4 in
        record {
          due = N.1;
          must = ap m.note_of (sym same) ∙ N.3;
          stands = there;
          inside = key_inside (cells_of z) words value (stands_key m L keys value N.1 there);
        }

    reads_at : (word : ℕ) → values id ≡ word → Whole m z words (set views j (after_read m v id word t))
    reads_at zero e = viewed (after_read m v id zero t)
        (record { sized = F.sized; stands = F.stands; over = F.over; probes = F.probes; noted = F.noted })
        (record { alive = at.1; spare = omega arith; passes = refl; draws = refl; tickets = refl })
    reads_at (suc value) e =
        let V = value_is value e in
        viewed (after_read m v id (suc value) t)
        (record {
          sized = F.sized;
          stands = λ i u h. ⊎_elim
              (λ (a : (value ≡ i) × (m.note_of t ≡ Some u)). subst (λ y. Stands m keys y u) a.0 (subst (Stands m keys value) (same_Some (sym V.must ∙ a.1)) V.stands))
              (λ b. F.stands i u b)
              (entered v.known value (m.note_of t) i u h);
          over = F.over;
          probes = F.probes;
          noted = λ i h. ⊎_elim (λ (a : id ≡ i) is. absurd (let b : values id ≡ 0 = ap values a ∙ is in omega arith)) (λ b. F.noted i b) h;
        })
        (record { alive = at.1; spare = omega arith; passes = refl; draws = refl; tickets = refl })

    -- a look at a value word
    pub reads : Whole m z words (set views j (after_read m v id (values id) t))
    reads = reads_at (values id) refl

    -- a noted id has a value
    pub noted_value : Has v.noted id → values id ≢ 0
    noted_value h = F.noted id h

    module _ (value : ℕ) (due : X) (known_value : knows v value ≡ Some due) (must : m.note_of t ≡ Some due) where
      inside : id < cells_of z
      inside = known_inside m L z words views W j v at id t known

      -- a note where there was one
      pub renotes : values id ≢ 0 → Whole m z words (set views j (after_note v id))
      renotes has = viewed (after_note v id)
          (record {
            sized = F.sized;
            stands = F.stands;
            over = F.over;
            probes = F.probes;
            noted = λ i h. ⊎_elim (λ (a : id ≡ i) is. has (ap values a ∙ is)) (λ b. F.noted i b) h;
          })
          (record { alive = at.1; spare = omega arith; passes = refl; draws = refl; tickets = refl })

      abbrev noted_words : List ℕ
      noted_words = set words (1 + cells_of z + id) (value + 1)

      same_keys : key_at (cells_of z) noted_words ≡ keys
      same_keys = keys_else (cells_of z) words (1 + cells_of z + id) (value + 1) (λ i lt e. absurd (omega arith))

      value_there : value_at (cells_of z) noted_words id ≡ value + 1
      value_there = let l = W.long in value_set (cells_of z) words id (value + 1) inside (omega arith)

      values_others : (i : ℕ) → i ≢ id → value_at (cells_of z) noted_words i ≡ values i
      values_others i far = value_else (cells_of z) words (1 + cells_of z + id) (value + 1) i (λ lt e. far (omega arith))

      -- a note in an empty value word
      pub notes : values id ≡ 0 → Whole m z (set words (1 + cells_of z + id) (value + 1)) (set views j (after_note v id))
      notes empty = kept noted_words (after_note v id) (length-set words (1 + cells_of z + id) (value + 1)) (count_else (cells_of z) words (1 + cells_of z + id) (value + 1) (omega arith))
          (λ i h. ap (λ f. f i) same_keys)
          keeps_values
          (subst (λ k. Sound m k (value_at (cells_of z) noted_words)) (sym same_keys)
          (noted_sound m keys values (value_at (cells_of z) noted_words) id value t due W.cells.sound here must (knows_stands m L z words views W j v at value due known_value) value_there values_others))
          (subst (λ k. (i : ℕ) → k i ≢ 0 → IsPlaced (cells_of z) k (m.home (k i) (cells_of z)) i) (sym same_keys) W.cells.placed)
          (subst (λ k. Fits m z (slice_index words 0) k (value_at (cells_of z) noted_words) (after_note v id)) (sym same_keys)
          (record {
            sized = F.sized;
            stands = F.stands;
            over = F.over;
            probes = F.probes;
            noted = λ i h. dite (ℕ_discrete i id)
                (λ is e. let a = value_there in let b = ap (value_at (cells_of z) noted_words) (sym is) in absurd (omega arith))
                (λ far. ⊎_elim (λ (a : id ≡ i). absurd (far (sym a))) (λ b e. F.noted i b (sym (values_others i far) ∙ e)) h);
          }))
          (record { alive = at.1; spare = omega arith; passes = refl; draws = refl; tickets = refl })
          (subst (λ k. filled k (cells_of z) + v.spare ≤ filled keys (cells_of z) + v.spare) (sym same_keys) (omega arith))
        where
          keeps_values : (i : ℕ) → values i ≢ 0 → value_at (cells_of z) noted_words i ≡ values i
          keeps_values i h = values_others i (λ is. h (ap values is ∙ empty))

  module _ (key steps : ℕ) (t : X) (is_key : key ≢ 0) (some : 1 ≤ v.spare) (spells : m.spells key (knows v) ≡ Some t) (goes : GoesOn v.probe key steps) where
    abbrev cell : ℕ
    cell = place (cells_of z) (m.home key (cells_of z)) steps

    home_low : m.home key (cells_of z) < cells_of z
    home_low = L.home_below key (cells_of z) W.allowed.cells.0

    passed_by : (p : Option (ℕ × ℕ)) → v.probe ≡ p → GoesOn p key steps → HasPassed m keys (cells_of z) key steps
    passed_by None is g = λ i h. absurd (omega arith)
    passed_by (Some q) is g = F.probes key steps (is ∙ ap Some (λ i. (g.0 i, g.1 i)))

    passed : HasPassed m keys (cells_of z) key steps
    passed = passed_by v.probe refl goes

    ends_by : (n : ℕ) → ((i : ℕ) → i < n → keys (place (cells_of z) (m.home key (cells_of z)) i) ≢ 0) → n < cells_of z
    ends_by = not_round (cells_of z) (m.home key (cells_of z)) keys home_low (has_room m L z words views W j v at some)

    low : steps < cells_of z
    low = ends_by steps (λ i h. (passed i h).0)

    pub claim_inside : place (cells_of z) (m.home key (cells_of z)) steps < cells_of z
    claim_inside = place_inside (cells_of z) (m.home key (cells_of z)) steps home_low low

    know : (i : ℕ) (u : X) → knows v i ≡ Some u → Stands m keys i u
    know = knows_stands m L z words views W j v at

    claim_fits : (keys' : ℕ → ℕ) → KeepsKeys keys keys' → Stands m keys' cell t → Fits m z (slice_index words 0) keys' values (after_claim v cell t)
    claim_fits keys' kk there = record {
      sized = F.sized;
      stands = λ i u e. ⊎_elim
          (λ (a : (cell ≡ i) × (t ≡ u)). subst (λ y. Stands m keys' y u) a.0 (subst (Stands m keys' cell) a.1 there))
          (λ b. stands_keeps m L keys keys' kk i u (F.stands i u b))
          e;
      over = F.over;
      probes = λ k n e. absurd (None_not e);
      noted = F.noted;
    }

    claim_owns : Owns (after_claim v cell t)
    claim_owns = record { alive = at.1; spare = omega arith; passes = refl; draws = refl; tickets = refl }

    -- the key was there
    pub found : keys cell ≡ key → Whole m z words (set views j (after_claim v cell t))
    found is = viewed (after_claim v cell t)
        (claim_fits keys (λ i h. refl) (spells_stands m L keys (knows v) know cell t (λ e. is_key (sym is ∙ e)) (subst (λ k. m.spells k (knows v) ≡ Some t) (sym is) spells)))
        claim_owns

    searched_is : (p : Option (ℕ × ℕ)) → GoesOn p key steps → steps ≡ searched p
    searched_is None g = g
    searched_is (Some q) g = sym g.1

    module _ (full : keys cell ≢ 0) (other : keys cell ≢ key) where
      further : HasPassed m keys (cells_of z) key (steps + 1)
      further i h = dite (ℕ_discrete i steps)
          (λ is. subst (λ y. (keys (place (cells_of z) (m.home key (cells_of z)) y) ≢ 0) × (keys (place (cells_of z) (m.home key (cells_of z)) y) ≢ key)) (sym is) (full, other))
          (λ far. passed i (omega arith))

      -- another key was there
      pub passes : Whole m z words (set views j (after_pass v key))
      passes = viewed (after_pass v key)
          (record {
            sized = F.sized;
            stands = F.stands;
            over = F.over;
            probes = λ k n e.
                let same : (key, searched v.probe + 1) ≡ (k, n) = same_Some e in
                subst (λ (q : ℕ × ℕ). HasPassed m keys (cells_of z) q.0 q.1) same (subst (λ s. HasPassed m keys (cells_of z) key (s + 1)) (searched_is v.probe goes) further);
            noted = F.noted;
          })
          (record { alive = at.1; spare = omega arith; passes = refl; draws = refl; tickets = refl })

      -- and the search hasn't gone all the way round
      pub goes_on : searched v.probe + 1 < cells_of z
      goes_on = subst (λ s. s + 1 < cells_of z) (searched_is v.probe goes) (ends_by (steps + 1) (λ i h. (further i h).0))

    module _ (empty : keys cell ≡ 0) where
      abbrev words' : List ℕ
      words' = set words (1 + cell) key

      abbrev keys' : ℕ → ℕ
      keys' = key_at (cells_of z) (set words (1 + cell) key)

      same_values : value_at (cells_of z) (set words (1 + cell) key) ≡ values
      same_values = values_else (cells_of z) words (1 + cell) key (λ i lt e. let p = claim_inside in absurd (omega arith))

      key_there : keys' cell ≡ key
      key_there = let l = W.long in key_set (cells_of z) words cell key claim_inside (omega arith)

      others : (i : ℕ) → i ≢ cell → keys' i ≡ keys i
      others i far = key_else (cells_of z) words (1 + cell) key i (λ lt e. far (omega arith))

      nowhere : (i : ℕ) → keys i ≢ key
      nowhere = is_absent m (cells_of z) keys W.cells.placed key steps is_key empty passed

      kk : KeepsKeys keys keys'
      kk = keeps m L keys keys' values cell key t W.cells.sound empty key_there others is_key

      -- the cell was empty
      pub won : Whole m z (set words (1 + cell) key) (set views j (after_claim v cell t))
      won = kept words' (after_claim v cell t) (length-set words (1 + cell) key) (count_else (cells_of z) words (1 + cell) key (omega arith))
          kk
          (λ i h. ap (λ f. f i) same_values)
          (subst (λ h. Sound m keys' h) (sym same_values) (claimed_sound m L keys keys' values cell key t W.cells.sound empty key_there others is_key (knows v) know spells nowhere))
          (placed_new m (cells_of z) keys W.cells.placed key steps is_key empty passed keys' low key_there others)
          (subst (λ h. Fits m z (slice_index words 0) keys' h (after_claim v cell t)) (sym same_values)
          (claim_fits keys' kk (new_stands m L keys keys' values cell key t W.cells.sound empty key_there others is_key (knows v) know spells nowhere)))
          claim_owns
          (let f = filled-new keys keys' cell (cells_of z) claim_inside empty (λ e. is_key (sym key_there ∙ e)) others in omega arith)

-- Each step on the words is a step of the table's list of steps, and tells what its play says.
use Rattle.std.proofs.Common.{◌≡◌, ◌≢◌, ℕ, zero, suc, ◌+◌, ◌%◌, ◌^◌, ◌<◌, [], ◌∷◌, ◌++◌, set, eqb, true, false, None}
use Rattle.std.proofs.Common.{Some, IsSome, refl, sym, ap, ◌∙◌, subst, inl, inr, ⊎_elim, arith, mod-eq_of_lt}
use Rattle.std.specs.Prelude.{slice_index, nat_lt, if◌then◌else◌, ◌==◌}
use mathlib.Core.Option.{none, some}
use mathlib.Core.Logic.{dite}
use native.Mathlib.Decide.{ℕ_discrete}
use lib.ListN.{get_elem?}
use prog.Atomic.{either}
use Rattle.atomic_table.specs.Table.{State, Me, step, Act, keeps, Valid, carried_after, stepped, Allows, Splits, Joins}
use Rattle.atomic_table.proofs.Lists.{exchanged}
use Rattle.cg_shared.specs.declared.view.Plan.{Plan}
use Rattle.cg_cells.specs.Meaning.{Meaning, Has, IsLawful}
use Rattle.cg_cells.specs.Index.{place}
use Rattle.cg_cells.specs.Views.{Sizes, ViewOf, Action, a_split, a_join, a_draw, a_look, a_read, a_probe, a_claim, a_note, makes, knows, cells_of, searched}
use Rattle.cg_cells.specs.Views.{after_draw, after_look, after_read, after_claim, after_pass, after_note, after_split, split_off, after_meet, ended}
use Rattle.cg_cells.specs.Table.{Whole, IsLive, key_at, value_at}
use Rattle.cg_cells.specs.Steps.{Table, Step, split, join, draw, check, look, read, probe, claim, note, Leads, Finds, IsSearching, is_close}
use Rattle.cg_cells.specs.Sure.{Sure}
use Rattle.cg_cells.proofs.Levels.{same_Some}
use Rattle.cg_cells.proofs.Notes.{some_is, is_some}
use Rattle.cg_cells.proofs.Rows.{word_again, key_in, value_in}
use Rattle.cg_cells.proofs.Totals.{at_set, at_after, set_again}
use Rattle.cg_cells.proofs.Fitting.{known_inside}
use Rattle.cg_cells.proofs.Keeping.{looked_key, looked_spells, value_is, noted_value, claim_inside, goes_on}
use Rattle.cg_cells.proofs.Moving.{draw_room, lines_few}
use Rattle.cg_cells.proofs.Runs.{whole_of, sure_of, one_more}
use Rattle.cg_shared.specs.Searches.{EndsAt, GoesPast}
use Rattle.cg_shared.specs.Plays.{sizes_of, table_of, Kept, Checked, Drew, Looked, Read, Probed, Claimed, Noted}

module _ {S X : Type 0} (m : Meaning X) (L : IsLawful m) (p : Plan) (slots id : ℕ) (me : Me S (ViewOf X)) (alive : me.0.gone ≡ false) where
  abbrev z : Sizes
  z = sizes_of p

  abbrev size : ℕ
  size = cells_of z

  -- what a step on a word owes, where the word becomes n
  abbrev Goes : State S (ViewOf X) → ℕ → ℕ → (Me S (ViewOf X) → Type 0) → Type 0
  Goes s word n Told = (w : ViewOf X) × (a : Act S) × Valid s.homes me.1 a × Kept m p (stepped s word n id me.1 w a) × Told (w, carried_after me.1 a)

  module _ (s : State S (ViewOf X)) (K : Kept m p s) (at : IsLive s.views id me.0) where
    -- the law on lists of steps tells of the words and views before the step
    W : Whole m z s.words s.views
    W = whole_of m L z (table_of s) K

    -- the step is one of the list's, and the law tells of the view after it
    goes : (word n : ℕ) (w : ViewOf X) (Told : Me S (ViewOf X) → Type 0) (x : Step) → is_close x ≡ false → w.gone ≡ false
        → Leads m z (table_of s) x (record { words = set s.words word n; views = set s.views id w })
        → (Sure m w → Told (w, me.1)) → Goes s word n Told
    goes word n w Told x opened alive' leads tells =
        let K' = one_more m z (table_of s) (record { words = set s.words word n; views = set s.views id w }) x K leads opened in
        (w, keeps, tt, K', tells (sure_of m L z (record { words = set s.words word n; views = set s.views id w }) K' id w (at_after s.views id me.0 w at.0, alive')))

  -- the view with one step more
  abbrev by : Action → ViewOf X
  by d = makes (d ∷ []) me.0

  drawn_alive : (n : ℕ) → (after_draw (by a_draw) n).gone ≡ false
  drawn_alive n = elim (nat_lt n me.0.sizes.lines) as
      (λ b. (if b then record (by a_draw) { spare = me.0.spare + me.0.sizes.share; tickets = me.0.tickets ++ n ∷ [] }
      else record (by a_draw) { over = true }).gone ≡ false)
      [ true ↦ alive | false ↦ alive ]

  pub draw_allowed : me.0.over ≡ false → Allows (Kept m p) slots id me 0 (λ n. (n + 1) % 2 ^ 64) (Drew m (step slots 0 1 0 none) me)
  draw_allowed more s K len at fits =
      let n = slice_index s.words 0 in
      let room = draw_room m z s.words s.views (W s K (at, alive)) id me.0 (at, alive) more in
      let few = lines_few z K.allowed in
      let next : (n + 1) % 2 ^ 64 ≡ n + 1 = mod-eq_of_lt (omega arith) in
      goes s K (at, alive) 0 ((n + 1) % 2 ^ 64) (after_draw (by a_draw) n) (Drew m (step slots 0 1 0 none) me n) (draw id) refl (drawn_alive n)
      (me.0, (at, alive), (more, λ i. record { words = set s.words 0 (next i); views = set s.views id (after_draw (by a_draw) n) }))
      (λ sure. (refl, refl, sure))

  pub check_allowed : (word : ℕ) → Allows (Kept m p) slots id me word (λ n. n) (Checked m (step slots word 0 0 none) me)
  check_allowed word s K len at fits = goes s K (at, alive) word (slice_index s.words word) me.0 (Checked m (step slots word 0 0 none) me (slice_index s.words word)) (check id) refl alive
      (me.0, (at, alive), λ i. record { words = word_again s.words word i; views = set_again s.views id me.0 at i })
      (λ sure. (refl, refl, sure))

  pub split_allowed : (heirs : ℕ) → heirs < me.0.heirs → Splits (Kept {S = S} m p) id me.0 (after_split heirs (by (a_split heirs))) (split_off heirs me.0)
  split_allowed heirs more s K at = one_more m z (table_of s) _ (split id heirs) K (me.0, (at, alive), (more, refl)) refl

  pub join_allowed : me.0.probe ≡ None → (other : ℕ) (w : ViewOf X) → w.gone ≡ false → w.probe ≡ None → Joins (Kept {S = S} m p) id me.0 other w (after_meet (by a_join) w) ended
  join_allowed free other w alive' free' s K at apart there = one_more m z (table_of s) _ (join id other) K
      (me.0, (at, alive), (w, (there_before, alive'), (apart, free, free', refl))) refl
    where
      there_before : get_elem? s.views other ≡ some w
      there_before = ⊎_elim (λ (a : (other ≡ id) × (after_meet (by a_join) w ≡ w)). absurd (apart a.0)) (λ b. b.1) (at_set s.views id other (after_meet (by a_join) w) w there)

  pub look_allowed : (cell : ℕ) → IsSome (knows me.0 cell) → Allows (Kept m p) slots id me (1 + cell) (λ n. n) (Looked m (step slots (1 + cell) 0 0 none) me)
  look_allowed cell known s K len at fits =
      let k = some_is _ known in
      let t = k.0 in
      let live : IsLive s.views id me.0 = (at, alive) in
      let whole = W s K live in
      let n = key_at size s.words cell in
      let is : n ≡ slice_index s.words (1 + cell) = key_in size s.words cell (known_inside m L z s.words s.views whole id me.0 live cell t k.1) in
      subst (λ n. Goes s (1 + cell) (slice_index s.words (1 + cell)) (Looked m (step slots (1 + cell) 0 0 none) me n)) is
      (goes s K live (1 + cell) (slice_index s.words (1 + cell)) (after_look m (by (a_look cell)) n t) (Looked m (step slots (1 + cell) 0 0 none) me n) (look id cell) refl alive
      (me.0, live, (t, k.1, λ i. record { words = word_again s.words (1 + cell) i; views = set s.views id (after_look m (by (a_look cell)) n t) }))
      (λ sure. (
        refl,
        λ cell' t' at_word known'.
            let here : cell' ≡ cell = omega arith in
            let same : t ≡ t' = same_Some (sym k.1 ∙ subst (λ y. knows me.0 y ≡ Some t') here known') in (
              subst (λ c. after_look m (by (a_look cell)) n t ≡ after_look m (by (a_look c)) n t') (sym here) (ap (after_look m (by (a_look cell)) n) same),
              sure,
              looked_key m L z s.words s.views whole id me.0 live cell t k.1,
              looked_spells m L z s.words s.views whole id me.0 live cell t k.1 sure.one ∙ ap Some same,
            ),
      )))

  read_alive : (cell n : ℕ) (t : X) → (after_read m (by (a_read cell)) cell n t).gone ≡ false
  read_alive cell zero t = alive
  read_alive cell (suc n) t = alive

  pub read_allowed : (count cell : ℕ) → count ≡ cells_of (sizes_of p) → me.0.sizes ≡ sizes_of p → IsSome (knows me.0 cell) → Allows (Kept m p) slots id me (1 + count + cell) (λ n. n) (Read m (step slots (1 + count + cell) 0 0 none) me)
  read_allowed count cell is_count sized known = subst (λ count. Allows (Kept m p) slots id me (1 + count + cell) (λ n. n) (Read m (step slots (1 + count + cell) 0 0 none) me)) (sym is_count) at_count
    where
      at_count : Allows (Kept m p) slots id me (1 + size + cell) (λ n. n) (Read m (step slots (1 + size + cell) 0 0 none) me)
      at_count s K len at fits =
          let k = some_is _ known in
          let t = k.0 in
          let live : IsLive s.views id me.0 = (at, alive) in
          let whole = W s K live in
          let word = 1 + size + cell in
          let n = value_at size s.words cell in
          let is : n ≡ slice_index s.words word = value_in size s.words cell (known_inside m L z s.words s.views whole id me.0 live cell t k.1) in
          let same_size : cells_of me.0.sizes ≡ size = ap cells_of sized in
          subst (λ n. Goes s word (slice_index s.words word) (Read m (step slots word 0 0 none) me n)) is
          (goes s K live word (slice_index s.words word) (after_read m (by (a_read cell)) cell n t) (Read m (step slots word 0 0 none) me n) (read id cell) refl (read_alive cell n t)
          (me.0, live, (t, k.1, λ i. record { words = word_again s.words word i; views = set s.views id (after_read m (by (a_read cell)) cell n t) }))
          (λ sure. (
            refl,
            λ cell' t' at_word known'.
                let here : cell' ≡ cell = omega arith in
                let same : t ≡ t' = same_Some (sym k.1 ∙ subst (λ y. knows me.0 y ≡ Some t') here known') in (
                  subst (λ c. after_read m (by (a_read cell)) cell n t ≡ after_read m (by (a_read c)) c n t') (sym here) (ap (after_read m (by (a_read cell)) cell n) same),
                  sure,
                  (λ value e.
                      let V = value_is m L z s.words s.views whole id me.0 live cell t k.1 value e in
                      (subst (λ u. IsSome (m.note_of u)) same (is_some _ V.due V.must), subst (λ c. value < c) (sym same_size) V.inside)),
                  (λ e h. noted_value m L z s.words s.views whole id me.0 live cell t k.1 (subst (Has me.0.noted) here h) e),
                ),
          )))

  module _ (key steps : ℕ) (Q : IsSearching m me.0 key steps) where
    t : X
    t = (some_is _ Q.spells).0

    spelt : m.spells key (knows me.0) ≡ Some t
    unfolding t
    spelt = (some_is _ Q.spells).1

    abbrev c : ℕ
    c = place size (m.home key size) steps

    -- the pass is sure of the view after it has claimed the key's cell
    ends : (d : Action) (cell' : ℕ) → 1 + c ≡ 1 + cell' → Sure m (after_claim (by d) c t) → EndsAt m me.0 key cell' (after_claim (by d) c t)
    ends d cell' at_word sure t' e =
        let here : c ≡ cell' = omega arith in
        let same : t ≡ t' = same_Some (sym spelt ∙ e) in
        ((λ i. after_claim (by d) (here i) (same i)), sure)

    module _ (s : State S (ViewOf X)) (K : Kept m p s) (live : IsLive s.views id me.0) where
      abbrev n : ℕ
      n = slice_index s.words (1 + c)

      is : key_at size s.words c ≡ slice_index s.words (1 + c)
      is = key_in size s.words c (claim_inside m L z s.words s.views (W s K live) id me.0 live key steps t Q.is_key Q.spare spelt Q.goes)

      -- the words stay, and the view becomes w
      still : (w : ViewOf X) → ◌≡◌ {A = Table X} (record { words = set s.words (1 + c) n; views = set s.views id w }) (record { words = s.words; views = set s.views id w })
      still w = λ i. record { words = word_again s.words (1 + c) i; views = set s.views id w }

      module _ (full : slice_index s.words (1 + c) ≢ 0) (other : slice_index s.words (1 + c) ≢ key) where
        -- another key is there
        past : (d : Action) → GoesPast me.0 key (after_pass (by d) key)
        past d = (
          refl,
          subst (λ y. searched me.0.probe + 1 < cells_of y) (sym ((W s K live).each id me.0 live).sized)
              (goes_on m L z s.words s.views (W s K live) id me.0 live key steps t Q.is_key Q.spare spelt Q.goes (λ e. full (sym is ∙ e)) (λ e. other (sym is ∙ e))),
        )

        other_key : (d : Action) → Finds m z (table_of s) id key (by d) c t (record { words = set s.words (1 + c) n; views = set s.views id (after_pass (by d) key) })
        other_key d = inr ((λ e. full (sym is ∙ e)), (λ e. other (sym is ∙ e)), still (after_pass (by d) key))

      -- this key is there
      this_key : (d : Action) → slice_index s.words (1 + c) ≡ key
          → Finds m z (table_of s) id key (by d) c t (record { words = set s.words (1 + c) n; views = set s.views id (after_claim (by d) c t) })
      this_key d same = inl (is ∙ same, still (after_claim (by d) c t))

      abbrev Loaded : Me S (ViewOf X) → Type 0
      Loaded = Probed m key (step slots (1 + c) 0 0 none) me n

      -- a load of the word, by what it finds
      probed : Goes s (1 + c) n Loaded
      probed = dite (ℕ_discrete n 0)
          (λ empty. goes s K live (1 + c) n (by (a_probe key)) Loaded (probe id key) refl alive
          (me.0, live, (t, steps, Q, spelt, inl (is ∙ empty, still (by (a_probe key)))))
          (λ sure. (refl, λ cell' at_word. (refl, (λ _. refl), (λ same. absurd (Q.is_key (sym same ∙ empty))), λ full. absurd (full empty)))))
          (λ full. dite (ℕ_discrete n key)
          (λ same. goes s K live (1 + c) n (after_claim (by (a_probe key)) c t) Loaded (probe id key) refl alive
          (me.0, live, (t, steps, Q, spelt, inr (this_key (a_probe key) same)))
          (λ sure. (refl, λ cell' at_word. (refl, (λ empty. absurd (full empty)), (λ _. ends (a_probe key) cell' at_word sure), λ _ other. absurd (other same)))))
          (λ other. goes s K live (1 + c) n (after_pass (by (a_probe key)) key) Loaded (probe id key) refl alive
          (me.0, live, (t, steps, Q, spelt, inr (other_key full other (a_probe key))))
          (λ sure. (refl, λ cell' at_word. (refl, (λ empty. absurd (full empty)), (λ same. absurd (other same)), λ _ _. past full other (a_probe key))))))

      abbrev Exchanged : Me S (ViewOf X) → Type 0
      Exchanged = Claimed m (step slots (1 + c) 0 key none) me n

      -- an exchange of 0 for the key, by what it finds
      claimed : Goes s (1 + c) (either (eqb n 0) key n) Exchanged
      claimed = exchanged n 0 key (λ x. Goes s (1 + c) x Exchanged)
          (λ empty. goes s K live (1 + c) key (after_claim (by (a_claim key)) c t) Exchanged (claim id key) refl alive
          (me.0, live, (t, steps, Q, spelt, inl (is ∙ empty, refl)))
          (λ sure. (refl, λ cell' at_word. (refl, (λ _. ends (a_claim key) cell' at_word sure), λ full. absurd (full empty)))))
          (λ full. dite (ℕ_discrete n key)
          (λ same. goes s K live (1 + c) n (after_claim (by (a_claim key)) c t) Exchanged (claim id key) refl alive
          (me.0, live, (t, steps, Q, spelt, inr (this_key (a_claim key) same)))
          (λ sure. (refl, λ cell' at_word. (refl, (λ _. ends (a_claim key) cell' at_word sure), λ _ other. absurd (other same)))))
          (λ other. goes s K live (1 + c) n (after_pass (by (a_claim key)) key) Exchanged (claim id key) refl alive
          (me.0, live, (t, steps, Q, spelt, inr (other_key full other (a_claim key))))
          (λ sure. (refl, λ cell' at_word. (refl, (λ w. absurd (⊎_elim full other w)), λ _ _. past full other (a_claim key))))))

    pub probe_allowed : (cell sought : ℕ) → cell ≡ place (cells_of (sizes_of p)) (m.home key (cells_of (sizes_of p))) steps → key ≡ sought
        → Allows (Kept m p) slots id me (1 + cell) (λ n. n) (Probed m sought (step slots (1 + cell) 0 0 none) me)
    probe_allowed cell sought is_place same = subst (λ k. Allows (Kept m p) slots id me (1 + cell) (λ n. n) (Probed m k (step slots (1 + cell) 0 0 none) me)) same
        (subst (λ y. Allows (Kept m p) slots id me (1 + y) (λ n. n) (Probed m key (step slots (1 + y) 0 0 none) me)) (sym is_place) (λ s K len at fits. probed s K (at, alive)))

    pub claim_allowed : (cell : ℕ) → cell ≡ place (cells_of (sizes_of p)) (m.home key (cells_of (sizes_of p))) steps
        → Allows (Kept m p) slots id me (1 + cell) (λ n. either (eqb n 0) key n) (Claimed m (step slots (1 + cell) 0 key none) me)
    claim_allowed cell is_place = subst (λ y. Allows (Kept m p) slots id me (1 + y) (λ n. either (eqb n 0) key n) (Claimed m (step slots (1 + y) 0 key none) me)) (sym is_place)
        (λ s K len at fits. claimed s K (at, alive))

  module _ (cell value : ℕ) (sized : me.0.sizes ≡ sizes_of p) (t : X) (known : knows me.0 cell ≡ Some t) (known_value : IsSome (knows me.0 value)) (due : m.note_of t ≡ knows me.0 value) where
    abbrev word : ℕ
    word = 1 + cells_of (sizes_of p) + cell

    -- the word after it, as the step of the list has it
    exchange : (old : ℕ) → either (eqb old 0) (value + 1) old ≡ (if old == 0 then value + 1 else old)
    exchange zero = refl
    exchange (suc old) = refl

    note_at : Allows (Kept m p) slots id me (1 + cells_of (sizes_of p) + cell) (λ n. either (eqb n 0) (value + 1) n) (Noted m (step slots (1 + cells_of (sizes_of p) + cell) 0 (value + 1) none) me)
    note_at s K len at fits =
        let v = some_is _ known_value in
        let live : IsLive s.views id me.0 = (at, alive) in
        let n = slice_index s.words word in
        let is : slice_index s.words word ≡ value_at size s.words cell = sym (value_in size s.words cell (known_inside m L z s.words s.views (W s K live) id me.0 live cell t known)) in
        let written = exchange n ∙ ap (λ x. if x == 0 then value + 1 else x) is in
        goes s K live word (either (eqb n 0) (value + 1) n) (after_note (by (a_note cell value)) cell) (Noted m (step slots word 0 (value + 1) none) me n) (note id cell value) refl alive
        (me.0, live, (t, v.0, known, v.1, due ∙ v.1, λ i. record { words = set s.words word (written i); views = set s.views id (after_note (by (a_note cell value)) cell) }))
        (λ sure. (
          refl,
          λ cell' value' at_word second.
              let same : cells_of me.0.sizes ≡ cells_of (sizes_of p) = ap cells_of sized in
              let here : cell ≡ cell' = omega arith in
              let this : value ≡ value' = omega arith in
              ((λ i. after_note (by (a_note (here i) (this i))) (here i)), sure),
        ))

    pub note_allowed : (count : ℕ) → count ≡ cells_of (sizes_of p) → Allows (Kept m p) slots id me (1 + count + cell) (λ n. either (eqb n 0) (value + 1) n) (Noted m (step slots (1 + count + cell) 0 (value + 1) none) me)
    note_allowed count is_count = subst (λ y. Allows (Kept m p) slots id me (1 + y + cell) (λ n. either (eqb n 0) (value + 1) n) (Noted m (step slots (1 + y + cell) 0 (value + 1) none) me)) (sym is_count) note_at

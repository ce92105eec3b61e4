-- The rule of a table's words, and what each step on them tells.
use Rattle.std.specs.Prelude.{◌≡◌, ◌≢◌, ◌⊎◌, ℕ, suc, ◌+◌, ◌<◌, [], ◌∷◌, Some, IsSome}
use Rattle.atomic_table.specs.Table.{State, Me, Step}
use Rattle.cg_shared.specs.declared.view.Plan.{Plan}
use Rattle.cg_cells.specs.Meaning.{Meaning, Has}
use Rattle.cg_cells.specs.Views.{Sizes, ViewOf, a_draw, a_look, a_read, a_probe, a_claim, a_note}
use Rattle.cg_cells.specs.Views.{cells_of, knows, makes, after_draw, after_look, after_read, after_note}
use Rattle.cg_cells.specs.Steps.{Table, IsReachable}
use Rattle.cg_cells.specs.Sure.{Sure}
use Rattle.cg_shared.specs.Searches.{EndsAt, GoesPast}

abbrev pub sizes_of : Plan → Sizes
sizes_of p = record { lines = p.lines; share = p.share; passes = p.passes }

-- a table's words and the views of its passes
abbrev pub table_of : {S X : Type 0} → State S (ViewOf X) → Table X
table_of s = record { words = s.words; views = s.views }

module _ {S X : Type 0} (m : Meaning X) where
  -- The rule: some list of steps that closes nothing leads to this table from the start
  abbrev pub Kept : Plan → State S (ViewOf X) → Type 0
  Kept p s = IsReachable m (sizes_of p) (table_of s)

  abbrev pub Drew : Step S → Me S (ViewOf X) → ℕ → Me S (ViewOf X) → Type 0
  Drew st me n me' = (me'.1 ≡ me.1) × (me'.0 ≡ after_draw (makes (a_draw ∷ []) me.0) n) × Sure m me'.0

  -- a load of a word of which nothing is learnt: it only tells what the rule says of the view
  abbrev pub Checked : Step S → Me S (ViewOf X) → ℕ → Me S (ViewOf X) → Type 0
  Checked st me n me' = (me'.1 ≡ me.1) × (me'.0 ≡ me.0) × Sure m me'.0

  -- a load of the key word of the cell id
  abbrev pub Looked : Step S → Me S (ViewOf X) → ℕ → Me S (ViewOf X) → Type 0
  Looked st me n me' =
      (me'.1 ≡ me.1)
      × ((id : ℕ) (t : X) → st.word ≡ 1 + id → knows me.0 id ≡ Some t
      → (me'.0 ≡ after_look m (makes (a_look id ∷ []) me.0) n t) × Sure m me'.0 × (n ≢ 0) × (m.spells n (knows me'.0) ≡ Some t))

  -- a load of the value word of the cell id
  abbrev pub Read : Step S → Me S (ViewOf X) → ℕ → Me S (ViewOf X) → Type 0
  Read st me n me' =
      (me'.1 ≡ me.1)
      × ((id : ℕ) (t : X) → st.word ≡ 1 + cells_of me.0.sizes + id → knows me.0 id ≡ Some t
      → (me'.0 ≡ after_read m (makes (a_read id ∷ []) me.0) id n t) × Sure m me'.0
      × ((value : ℕ) → n ≡ suc value → IsSome (m.note_of t) × (value < cells_of me.0.sizes))
      × (n ≡ 0 → ¬ Has me.0.noted id))

  -- a load of the key word of the cell id, to which the search for a key has come
  abbrev pub Probed : ℕ → Step S → Me S (ViewOf X) → ℕ → Me S (ViewOf X) → Type 0
  Probed key st me n me' =
      (me'.1 ≡ me.1)
      × ((id : ℕ) → st.word ≡ 1 + id
      → (me'.0.made ≡ a_probe key ∷ me.0.made) × (n ≡ 0 → me'.0 ≡ makes (a_probe key ∷ []) me.0)
      × (n ≡ key → EndsAt m me.0 key id me'.0) × (n ≢ 0 → n ≢ key → GoesPast me.0 key me'.0))

  -- an exchange of 0 for a key in the key word of the cell id
  abbrev pub Claimed : Step S → Me S (ViewOf X) → ℕ → Me S (ViewOf X) → Type 0
  Claimed st me n me' =
      (me'.1 ≡ me.1)
      × ((id : ℕ) → st.word ≡ 1 + id
      → (me'.0.made ≡ a_claim st.second ∷ me.0.made)
      × ((n ≡ 0) ⊎ (n ≡ st.second) → EndsAt m me.0 st.second id me'.0)
      × (n ≢ 0 → n ≢ st.second → GoesPast me.0 st.second me'.0))

  -- an exchange of 0 for a value in the value word of the cell id
  abbrev pub Noted : Step S → Me S (ViewOf X) → ℕ → Me S (ViewOf X) → Type 0
  Noted st me n me' =
      (me'.1 ≡ me.1)
      × ((id value : ℕ) → st.word ≡ 1 + cells_of me.0.sizes + id → st.second ≡ value + 1
      → (me'.0 ≡ after_note (makes (a_note id value ∷ []) me.0) id) × Sure m me'.0)

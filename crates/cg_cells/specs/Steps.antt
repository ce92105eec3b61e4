-- The steps of the passes of a shared table. Each is one load, one exchange or one addition on one word, by one pass.
use Rattle.std.specs.Prelude.{◌≡◌, ◌≢◌, ◌⊎◌, ℕ, ◌+◌, ◌<◌, ◌≤◌, List, [], ◌∷◌, ◌++◌, map, replicate, Bool, true}
use Rattle.std.specs.Prelude.{false, Option, Some, None, IsSome, if◌then◌else◌, ◌==◌, slice_index, slice_set}
use Rattle.cg_cells.specs.Meaning.{Meaning}
use Rattle.cg_cells.specs.Index.{place}
use Rattle.cg_cells.specs.Views.{Sizes, ViewOf, Action, a_split, a_join, a_draw, a_look, a_read, a_probe, a_claim, a_note, cells_of, knows, makes, first_view}
use Rattle.cg_cells.specs.Views.{after_split, split_off, after_meet, ended, after_draw, after_claim, after_pass, after_note, after_look, after_read}
use Rattle.cg_cells.specs.Table.{IsAllowed, IsLive, key_at, value_at}

-- a table's words, and the views of all its passes
pub record Table (X : Type 0) : Type 0 where
  pub words : List ℕ
  pub views : List (ViewOf X)

-- A step by the number of its pass and what else it is given
pub data Step : Type 0 where
  -- the heirs of the new pass
  split : ℕ → ℕ → Step
  -- the pass that ends
  join : ℕ → ℕ → Step
  draw : ℕ → Step
  -- a look at a word of which nothing is learnt, at the key word of an id, at the value word of an id
  check : ℕ → Step
  look : ℕ → ℕ → Step
  read : ℕ → ℕ → Step
  -- a look at the key word of the cell that the search for a key has come to, and an exchange of 0 for the key there
  probe : ℕ → ℕ → Step
  claim : ℕ → ℕ → Step
  -- the id and its value
  note : ℕ → ℕ → ℕ → Step
  close : ℕ → Step

-- a search for the key goes on so many cells after its home
abbrev pub GoesOn : Option (ℕ × ℕ) → ℕ → ℕ → Type 0
GoesOn None key steps = steps ≡ 0
GoesOn (Some p) key steps = (p.0 ≡ key) × (p.1 ≡ steps)

module _ {X : Type 0} (m : Meaning X) where
  -- The search of a pass with this view for a key, which spells a thing, has come so many cells past the key's home
  pub record IsSearching (v : ViewOf X) (key steps : ℕ) : Type 0 where
    pub is_key : key ≢ 0
    pub spare : 1 ≤ v.spare
    pub spells : IsSome (m.spells key (knows v))
    pub goes : GoesOn v.probe key steps

module _ {X : Type 0} where
  -- Make: all words 0, and one pass
  abbrev pub opening : Sizes → Table X
  opening z = record { words = replicate (1 + cells_of z + cells_of z) 0; views = first_view z ∷ [] }

  -- a word becomes n, and the view of a pass w
  abbrev pub stepped : Table X → ℕ → ℕ → ℕ → ViewOf X → Table X
  stepped s word n j w = record { words = slice_set s.words word n; views = slice_set s.views j w }

  -- the view of a pass becomes w
  abbrev pub seen : Table X → ℕ → ViewOf X → Table X
  seen s j w = record s { views = slice_set s.views j w }

  -- of the view of the live pass j
  abbrev pub OfLive : (ViewOf X → Type 0) → Table X → ℕ → Type 0
  OfLive P s j = (v : ViewOf X) × IsLive s.views j v × P v

module _ {X : Type 0} (m : Meaning X) (z : Sizes) where
  -- Where the search for a key that spells a thing comes to a cell with a key: it is this key, or another
  abbrev pub Finds : Table X → ℕ → ℕ → ViewOf X → ℕ → X → Table X → Type 0
  Finds s j key v cell thing t =
      ((key_at (cells_of z) s.words cell ≡ key) × (t ≡ seen s j (after_claim v cell thing)))
      ⊎ ((key_at (cells_of z) s.words cell ≢ 0) × (key_at (cells_of z) s.words cell ≢ key) × (t ≡ seen s j (after_pass v key)))

  -- A probe: at the cell there is no key, and nothing is learnt, or there is one
  abbrev pub ProbeLeads : Table X → ℕ → ℕ → ViewOf X → ℕ → X → Table X → Type 0
  ProbeLeads s j key v cell thing t =
      ((key_at (cells_of z) s.words cell ≡ 0) × (t ≡ seen s j v)) ⊎ Finds s j key v cell thing t

  -- A claim: at the cell there is no key, which becomes this key, or there is one
  abbrev pub ClaimLeads : Table X → ℕ → ℕ → ViewOf X → ℕ → X → Table X → Type 0
  ClaimLeads s j key v cell thing t =
      ((key_at (cells_of z) s.words cell ≡ 0) × (t ≡ stepped s (1 + cell) key j (after_claim v cell thing)))
      ⊎ Finds s j key v cell thing t

  -- The step may be made at s, and leads to t. Its pass keeps it, but for a check
  abbrev pub Leads : Table X → Step → Table X → Type 0
  Leads s (split j heirs) t = OfLive (λ v. (heirs < v.heirs)
      × (t ≡ record s { views = slice_set s.views j (after_split heirs (makes (a_split heirs ∷ []) v)) ++ split_off heirs v ∷ [] })) s j
  Leads s (join j other) t = OfLive (λ v. OfLive (λ w. (other ≢ j) × (v.probe ≡ None) × (w.probe ≡ None)
      × (t ≡ record s { views = slice_set (slice_set s.views j (after_meet (makes (a_join ∷ []) v) w)) other ended })) s other) s j
  Leads s (draw j) t = OfLive (λ v. (v.over ≡ false)
      × (t ≡ stepped s 0 (slice_index s.words 0 + 1) j (after_draw (makes (a_draw ∷ []) v) (slice_index s.words 0)))) s j
  Leads s (check j) t = OfLive (λ v. t ≡ s) s j
  Leads s (look j id) t = OfLive (λ v. (thing : X) × (knows v id ≡ Some thing)
      × (t ≡ seen s j (after_look m (makes (a_look id ∷ []) v) (key_at (cells_of z) s.words id) thing))) s j
  Leads s (read j id) t = OfLive (λ v. (thing : X) × (knows v id ≡ Some thing)
      × (t ≡ seen s j (after_read m (makes (a_read id ∷ []) v) id (value_at (cells_of z) s.words id) thing))) s j
  Leads s (probe j key) t = OfLive (λ v. (thing : X) × (steps : ℕ) × IsSearching m v key steps
      × (m.spells key (knows v) ≡ Some thing)
      × ProbeLeads s j key (makes (a_probe key ∷ []) v) (place (cells_of z) (m.home key (cells_of z)) steps) thing t) s j
  Leads s (claim j key) t = OfLive (λ v. (thing : X) × (steps : ℕ) × IsSearching m v key steps
      × (m.spells key (knows v) ≡ Some thing)
      × ClaimLeads s j key (makes (a_claim key ∷ []) v) (place (cells_of z) (m.home key (cells_of z)) steps) thing t) s j
  Leads s (note j id value) t = OfLive (λ v. (thing : X) × (due : X) × (knows v id ≡ Some thing) × (knows v value ≡ Some due)
      × (m.note_of thing ≡ Some due)
      × (t ≡ stepped s (1 + cells_of z + id)
      (if value_at (cells_of z) s.words id == 0 then value + 1 else value_at (cells_of z) s.words id) j (after_note (makes (a_note id value ∷ []) v) id))) s j
  Leads s (close j) t = OfLive (λ v. t ≡ record s { views = map (λ u. ended) s.views }) s j

  -- these steps, one after the other, lead from s to t
  abbrev pub Run : Table X → List Step → Table X → Type 0
  Run s [] t = s ≡ t
  Run s (x ∷ xs) t = (u : Table X) × Leads s x u × Run u xs t

abbrev pub is_close : Step → Bool
is_close (split j heirs) = false
is_close (join j other) = false
is_close (draw j) = false
is_close (check j) = false
is_close (look j id) = false
is_close (read j id) = false
is_close (probe j key) = false
is_close (claim j key) = false
is_close (note j id value) = false
is_close (close j) = true

-- no step closes the table
abbrev pub IsOpen : List Step → Type 0
IsOpen [] = Unit {0}
IsOpen (x ∷ xs) = (is_close x ≡ false) × IsOpen xs

-- some list of steps that closes nothing leads to the table from the start of one of these sizes
pub record IsReachable {X : Type 0} (m : Meaning X) (z : Sizes) (t : Table X) : Type 0 where
  pub allowed : IsAllowed z
  pub steps : List Step
  pub opened : IsOpen steps
  pub run : Run m z (opening z) steps t

-- the lists of all passes, where that of the pass j becomes ds
abbrev pub puts : ℕ → List Action → (ℕ → List Action) → ℕ → List Action
puts j ds f i = if i == j then ds else f i

-- what each pass, with those that were met into it, has made after one step more
abbrev pub adds : Step → (ℕ → List Action) → ℕ → List Action
adds (split j heirs) f = puts j (a_split heirs ∷ f j) f
adds (join j other) f = puts j (a_join ∷ f j ++ f other) f
adds (draw j) f = puts j (a_draw ∷ f j) f
adds (check j) f = f
adds (look j id) f = puts j (a_look id ∷ f j) f
adds (read j id) f = puts j (a_read id ∷ f j) f
adds (probe j key) f = puts j (a_probe key ∷ f j) f
adds (claim j key) f = puts j (a_claim key ∷ f j) f
adds (note j id value) f = puts j (a_note id value ∷ f j) f
adds (close j) f = f

-- what each pass has made after these steps
abbrev pub made_by : List Step → (ℕ → List Action) → ℕ → List Action
made_by [] f = f
made_by (x ∷ xs) f = made_by xs (adds x f)

module _ {X : Type 0} where
  -- the table has these key words and value words
  abbrev pub HasCells : Table X → List ℕ → List ℕ → Type 0
  HasCells t keys values = (count : ℕ) × (t.words ≡ count ∷ keys ++ values)

  -- a live pass of the table has this view
  abbrev pub HasPass : Table X → ViewOf X → Type 0
  HasPass t v = (j : ℕ) × IsLive t.views j v

  -- these key words and value words, and this view of a live pass, are those of a table to which some list of steps leads
  abbrev pub IsOutcome : Meaning X → Sizes → List ℕ → List ℕ → ViewOf X → Type 0
  IsOutcome m z keys values v = (t : Table X) × IsReachable m z t × HasCells t keys values × HasPass t v

-- A search for a key, as the clauses of its turns see it.
use Rattle.std.specs.Prelude.{◌≡◌, ◌⊎◌, ℕ, zero, suc, ◌+◌, ◌^◌, ◌<◌, List, ◌∷◌, false, Some}
use Rattle.cg_cells.specs.Meaning.{Meaning}
use Rattle.cg_cells.specs.Index.{place}
use Rattle.cg_cells.specs.Views.{Sizes, ViewOf, Action, a_probe, a_claim, cells_of, knows, searched, after_claim, after_pass}
use Rattle.cg_cells.specs.Steps.{IsSearching}
use Rattle.cg_cells.specs.Sure.{Sure}

module _ {X : Type 0} (m : Meaning X) where
  -- A live pass with this view, of a table of these sizes and so many words, searches for a key, and has come to this cell,
  -- so many after the key's home
  pub record IsAt (z : Sizes) (words : ℕ) (v : ViewOf X) (key steps cell : ℕ) : Type 0 where
    pub inside : 1 + cell < words
    pub small : cell < 2 ^ 26
    pub live : v.gone ≡ false
    pub search : IsSearching m v key steps
    pub place : cell ≡ place (cells_of z) (m.home key (cells_of z)) steps

  -- The search ends at this cell, which is known as the key's thing from then on. What was made is told by the turns
  abbrev pub EndsAt : ViewOf X → ℕ → ℕ → ViewOf X → Type 0
  EndsAt v key cell w = (t : X) → m.spells key (knows v) ≡ Some t → (w ≡ after_claim (record v { made = w.made }) cell t) × Sure m w

-- the search goes on past a cell with another key, and some cell is left
abbrev pub GoesPast : {X : Type 0} → ViewOf X → ℕ → ViewOf X → Type 0
GoesPast v key w = (w ≡ after_pass (record v { made = w.made }) key) × (searched v.probe + 1 < cells_of v.sizes)

-- One turn of a search for a key, by what its pass has made before it and after it: a probe of the key, or a probe and then a claim
abbrev pub IsTurn : ℕ → List Action → List Action → Type 0
IsTurn key before after = (after ≡ a_probe key ∷ before) ⊎ (after ≡ a_claim key ∷ a_probe key ∷ before)

-- so many turns, one after the other
abbrev pub AreTurns : ℕ → ℕ → List Action → List Action → Type 0
AreTurns key zero before after = after ≡ before
AreTurns key (suc n) before after = (between : List Action) × AreTurns key n before between × IsTurn key between after

-- The index of a store in plain memory: a row of slots, as many as there are cells. A slot holds 0 or a cell's number plus 1.
use Rattle.std.specs.Prelude.{◌≡◌, ◌≢◌, ℕ, ◌+◌, ◌-◌, ◌<◌, ◌≤◌, List, length, slice_index, nat_lt, if◌then◌else◌}
use Rattle.cg_cells.specs.declared.index.ProbeEnd.{ProbeEnd}
use Rattle.cg_cells.specs.declared.index.ProbeEnd.TheVariants.{Cell, Slot}
use Rattle.cg_cells.specs.Meaning.{Meaning}
use Rattle.cg_cells.specs.Words.{Words, IsStore, filled}

-- so many slots after the home, going round at the end
abbrev pub place : ℕ → ℕ → ℕ → ℕ
place size home steps = if nat_lt (home + steps) size then home + steps else home + steps - size

-- The cell stands in a slot so many after the home, with no empty slot between
pub record IsReached (size : ℕ) (slots : ℕ → ℕ) (home cell : ℕ) : Type 0 where
  pub steps : ℕ
  pub within : steps < size
  pub here : slots (place size home steps) ≡ cell + 1
  pub between : (k : ℕ) → k < steps → slots (place size home k) ≢ 0

-- The slot is empty and comes so many after the home. Those between are full, and none of their cells has the key
pub record IsEnd (size : ℕ) (keys slots : ℕ → ℕ) (home key slot : ℕ) : Type 0 where
  pub steps : ℕ
  pub within : steps < size
  pub here : slot ≡ place size home steps
  pub empty : slots slot ≡ 0
  pub between : (k : ℕ) → k < steps → (slots (place size home k) ≢ 0) × (keys (slots (place size home k) - 1) ≢ key)

-- a cell of the index has the key
pub record IsCellOf (keys slots : ℕ → ℕ) (key cell : ℕ) : Type 0 where
  pub slot : ℕ
  pub here : slots slot ≡ cell + 1
  pub key_is : keys cell ≡ key

-- where a search for a key from this home ends
abbrev pub IsProbeEnd : List ℕ → List ℕ → ℕ → ℕ → ProbeEnd → Type 0
IsProbeEnd keys index home key (Cell cell) = IsCellOf (slice_index keys) (slice_index index) key cell
IsProbeEnd keys index home key (Slot slot) =
    IsEnd (length index) (slice_index keys) (slice_index index) home key slot × (slot < length index)

module _ {X : Type 0} (m : Meaning X) where
  -- The index has each of the first cells that has a key, and no other cell
  pub record IsIndex (size : ℕ) (keys slots : ℕ → ℕ) (cells : ℕ) : Type 0 where
    pub inside : (s : ℕ) → slots s ≤ cells
    pub reached : (i : ℕ) → i < cells → keys i ≢ 0 → IsReached size slots (m.home (keys i) size) i
    pub few : filled slots size ≤ filled keys cells

  -- A store of these words, its index, and a cell before which each has a key
  pub record IsKept (w : Words) (index : List ℕ) (next : ℕ) : Type 0 where
    pub store : IsStore m w
    pub same_length : length index ≡ length w.keys
    pub indexed : IsIndex (length w.keys) (slice_index w.keys) (slice_index index) (length w.keys)
    pub full : (i : ℕ) → i < next → slice_index w.keys i ≢ 0

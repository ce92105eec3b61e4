-- The words of a store in plain memory, and what they tell.
use Rattle.std.specs.Prelude.{◌≡◌, ◌≢◌, ℕ, zero, suc, ◌+◌, ◌<◌, ◌≤◌, ◌^◌, ◌⊎◌, List, [], ◌∷◌, length, replicate, Option, Some, None, slice_index}
use Rattle.std.specs.Ordering.{nat_cmp}
use Rattle.std.specs.FinMap as map
use Rattle.cg_cells.specs.Meaning.{Meaning, Sound, level}
use Rattle.cg_cells.specs.Store.{State}

-- The key word and the value word of each cell, and how many claims are left. A value word is 0 or the noted id plus 1
pub record Words : Type 0 where
  pub keys : List ℕ
  pub values : List ℕ
  pub spare : ℕ

-- so many empty cells
abbrev pub empty_words : ℕ → Words
empty_words size = record { keys = replicate size 0; values = replicate size 0; spare = size }

abbrev pub one_if : ℕ → ℕ
one_if zero = 0
one_if (suc k) = 1

-- how many of the first n words aren't 0
abbrev pub filled : (ℕ → ℕ) → ℕ → ℕ
filled words zero = 0
filled words (suc n) = filled words n + one_if (words n)

-- the indices of the words that aren't 0, where the first has the index n
abbrev pub marked : ℕ → List ℕ → List ℕ
marked n [] = []
marked n (zero ∷ words) = marked (suc n) words
marked n (suc word ∷ words) = n ∷ marked (suc n) words

-- the first cell without a key
pub record IsFirstEmpty (keys : List ℕ) (id : ℕ) : Type 0 where
  pub inside : id < length keys
  pub empty : slice_index keys id ≡ 0
  pub first : (i : ℕ) → i < id → slice_index keys i ≢ 0

-- the cell of the key, and where no cell has it, the first one without a key
abbrev pub IsCellFor : List ℕ → ℕ → ℕ → Type 0
IsCellFor keys key id = (slice_index keys id ≡ key) ⊎ (((i : ℕ) → slice_index keys i ≢ key) × IsFirstEmpty keys id)

-- the cells with a key are the first n
pub record AreFirst (keys : List ℕ) (n : ℕ) : Type 0 where
  pub full : (i : ℕ) → i < n → slice_index keys i ≢ 0
  pub empty : (i : ℕ) → n ≤ i → slice_index keys i ≡ 0

module _ {X : Type 0} where
  -- a pair more, where there is a thing
  abbrev pub entry : ℕ → Option X → List (ℕ × X) → List (ℕ × X)
  entry i None es = es
  entry i (Some t) es = (i, t) ∷ es

  -- the first n ids that have a thing, each with its thing
  abbrev pub entries_of : (ℕ → Option X) → ℕ → List (ℕ × X)
  entries_of f zero = []
  entries_of f (suc n) = entry n (f n) (entries_of f n)

module _ {X : Type 0} (m : Meaning X) where
  -- the words of a store: 1 to 2 ^ 26 cells, sound, with an empty cell for each claim that is left
  pub record IsStore (w : Words) : Type 0 where
    pub same_length : length w.values ≡ length w.keys
    pub size : (1 ≤ length w.keys) × (length w.keys ≤ 2 ^ 26)
    pub sound : Sound m (slice_index w.keys) (slice_index w.values)
    pub enough : filled (slice_index w.keys) (length w.keys) + w.spare ≤ length w.keys

  -- What all the cells stand for, by their key words. A cell that stands for a thing does so at the level of the number of cells
  unfoldable pub things_of : List ℕ → map.FinMap nat_cmp X
  things_of keys = map.from_entries (entries_of (level m (slice_index keys) (length keys)) (length keys))

  -- A plain store knows what its cells stand for, and the cells with a value are noted
  abbrev pub state_of : Words → State X (Unit {0})
  state_of w = record { known = things_of w.keys; noted = marked 0 w.values; spare = w.spare; rest = tt }

-- What the keys of a table mean: four functions, the laws that tie them, and what a cell stands for.
use Rattle.std.specs.Prelude.{◌≡◌, ◌≢◌, ℕ, zero, suc, ◌-◌, ◌<◌, ◌≤◌, List, [], ◌∷◌, ◌⊎◌, Option, Some, None}
use Rattle.std.specs.FinMap as map
use Rattle.std.specs.Ordering.{nat_cmp}
use Rattle.cg_cells.specs.Parts.{names_of}

-- the number is in the list
abbrev pub Has : List ℕ → ℕ → Type 0
Has [] x = ⊥
Has (y ∷ ys) x = (y ≡ x) ⊎ Has ys x

-- X is the type of things. A map from ids to things is given by its look-up function
pub record Meaning (X : Type 0) : Type 0 where
  -- the thing that a key spells under a map
  pub spells : ℕ → (ℕ → Option X) → Option X
  -- the thing that a note on a cell of this thing must spell, or nothing where no note may stand
  pub note_of : X → Option X
  -- of a key, the thing that it spells and an id that it names: the thing that this id must be
  pub part : ℕ → X → ℕ → X
  -- the home of a key in a table of this size
  pub home : ℕ → ℕ → ℕ

-- different ids have different things
abbrev pub IsInjective : {X : Type 0} → (ℕ → Option X) → Type 0
IsInjective {X} f = (i j : ℕ) (t : X) → f i ≡ Some t → f j ≡ Some t → i ≡ j

-- each id with a thing keeps it
abbrev pub Grows : {X : Type 0} → (ℕ → Option X) → (ℕ → Option X) → Type 0
Grows {X} f g = (i : ℕ) (t : X) → f i ≡ Some t → g i ≡ Some t

pub record IsLawful {X : Type 0} (m : Meaning X) : Type 0 where
  -- where a key spells a thing, each id that it names is in the map, as the thing that it must be
  pub names_parts : (key : ℕ) (f : ℕ → Option X) (t : X) → m.spells key f ≡ Some t
      → (id : ℕ) → Has (names_of key) id → f id ≡ Some (m.part key t id)
  -- what a key spells depends on the things of the ids that it names alone
  pub reads_parts : (key : ℕ) (f g : ℕ → Option X) (t : X) → m.spells key f ≡ Some t
      → ((id : ℕ) → Has (names_of key) id → g id ≡ f id) → m.spells key g ≡ Some t
  -- where different ids have different things, keys that spell one thing are equal
  pub one_key : (k l : ℕ) (f : ℕ → Option X) (t : X) → IsInjective f
      → m.spells k f ≡ Some t → m.spells l f ≡ Some t → k ≡ l
  -- a home is a cell of the table
  pub home_below : (key size : ℕ) → 1 ≤ size → m.home key size < size

module _ {X : Type 0} (m : Meaning X) where
  -- the key spells the thing under some finite map that the map extends
  pub record SpellsUnderFinite (key : ℕ) (f : ℕ → Option X) (t : X) : Type 0 where
    pub known : map.FinMap nat_cmp X
    pub part_of : Grows (map.get known) f
    pub spells : m.spells key (map.get known) ≡ Some t

  -- the thing that a note must spell on a cell of this thing
  abbrev pub note_for : Option X → Option X
  note_for None = None
  note_for (Some t) = m.note_of t

  -- what a key word spells, where 0 is no key
  abbrev pub spelled : ℕ → (ℕ → Option X) → Option X
  spelled zero f = None
  spelled (suc k) f = m.spells (suc k) f

  -- what the cells stand for at a level, by the key word of each cell: nothing at level 0, and at the next level what the
  -- key spells where the ids that it names stand for what they do at this level. So no cell stands by itself
  abbrev pub level : (ℕ → ℕ) → ℕ → ℕ → Option X
  level keys zero id = None
  level keys (suc n) id = spelled (keys id) (level keys n)

  -- the cell stands for the thing
  abbrev pub Stands : (ℕ → ℕ) → ℕ → X → Type 0
  Stands keys id t = (n : ℕ) × (level keys n id ≡ Some t)

  -- where there is a thing, some cells with these keys stand for it: no thing is known but what is made of keys
  abbrev pub IsReal : Option X → Type 0
  IsReal o = (t : X) → o ≡ Some t → (keys : ℕ → ℕ) × (id : ℕ) × Stands keys id t

  -- What holds of the cells of any table. keys and values give each cell's words, and 0 past the last cell
  pub record Sound (keys values : ℕ → ℕ) : Type 0 where
    -- no key stands twice
    pub once : (i j : ℕ) → keys i ≢ 0 → keys i ≡ keys j → i ≡ j
    -- each cell with a key stands for a thing
    pub stand : (i : ℕ) → keys i ≢ 0 → (t : X) × Stands keys i t
    -- a value stands only on a cell for whose thing a note may stand, and names a cell that stands for what it must spell
    pub notes : (i : ℕ) → values i ≢ 0
        → (t : X) × (v : X) × Stands keys i t × (m.note_of t ≡ Some v) × Stands keys (values i - 1) v
    -- different cells stand for different things
    pub apart : (i j : ℕ) (t : X) → Stands keys i t → Stands keys j t → i ≡ j

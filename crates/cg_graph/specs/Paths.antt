-- Graphs of which some edges are gone, and paths from the ground.
use Rattle.std.specs.Prelude.{◌≡◌, ◌≢◌, ◌⊎◌, ℕ, zero, suc, ◌==◌, ◌||◌, Bool, false, if◌then◌else◌, Option, Some, None, List, [], ◌∷◌, slice_get, slice_index_or}
pub use Rattle.cg_moves.specs.Connected.{Edge, connected}

-- `0`, the vertex that is the ground
abbrev pub ground : ℕ
ground = 48

-- `.`, in the place of an edge that is gone
abbrev pub gone : ℕ
gone = 46

-- the colour of the edge at a place; past the last one it is gone
abbrev pub colour : List ℕ → ℕ → ℕ
colour cells k = slice_index_or cells k gone

abbrev pub IsThere : List ℕ → ℕ → Type 0
IsThere cells k = colour cells k ≢ gone

-- the edge at the place has these two ends
abbrev pub Joins : List Edge → ℕ → ℕ → ℕ → Type 0
Joins edges k u v = (slice_get edges k ≡ Some (record { one = u; other = v }))
    ⊎ (slice_get edges k ≡ Some (record { one = v; other = u }))

-- a path of edges that are there leads from the ground to the vertex: the empty path to the ground, and one that leads to an
-- end of an edge also to its other end
pub data Reached (edges : List Edge) (cells : List ℕ) : ℕ → Type 0 where
  empty : (v : ℕ) → v ≡ ground → Reached edges cells v
  along : (k u v : ℕ) → Reached edges cells u → IsThere cells k → Joins edges k u v → Reached edges cells v

-- such a path leads to an end of the edge at the place
pub record IsJoined (edges : List Edge) (cells : List ℕ) (k : ℕ) : Type 0 where
  pub end : ℕ
  pub away : ℕ
  pub joins : Joins edges k end away
  pub path : Reached edges cells end

-- each edge that is there is joined to the ground
abbrev pub IsSettled : List Edge → List ℕ → Type 0
IsSettled edges cells = (k : ℕ) → IsThere cells k → IsJoined edges cells k

-- ---- the same, computed

-- the edges that are there
abbrev pub present : List Edge → List ℕ → List Edge
present [] cells = []
present (e ∷ es) [] = []
present (e ∷ es) (c ∷ cs) = if c == gone then present es cs else e ∷ present es cs

abbrev pub has_end : (ℕ → Bool) → Option Edge → Bool
has_end test None = false
has_end test (Some e) = test e.one || test e.other

-- whether the edge at the place is joined to the ground: the law function `paths` says so
unfoldable pub is_joined : List Edge → List ℕ → ℕ → Bool
is_joined edges cells k = has_end (connected (present edges cells) ground) (slice_get edges k)

-- the cells at the places that pass the test, the others gone
abbrev pub kept : (ℕ → Bool) → List ℕ → List ℕ
kept test [] = []
kept test (c ∷ cs) = (if test zero then c else gone) ∷ kept (λ k. test (suc k)) cs

-- without the edges that aren't joined to the ground
abbrev pub settled : List Edge → List ℕ → List ℕ
settled edges cells = kept (is_joined edges cells) cells

-- Col and Snort on graphs. Berlekamp, Conway, Guy, Winning Ways, chapters 2 and 6: a player turns a free vertex into the own
-- colour. In Col no neighbour may have the own colour, and in Snort none the other player's.
use Rattle.std.specs.Prelude.{◌<◌, ◌⊎◌, ◌≢◌, ◌≡◌, ℕ, ◌==◌, ◌&&◌, ◌||◌, Bool, not, if◌then◌else◌}
use Rattle.std.specs.Prelude.{List, [], ◌∷◌, codes, count_by, length, slice_index, slice_set, None}
use Rattle.std.specs.List.{flat_map, list_any}
use Rattle.std.specs.Str.{bytes_eq}
use Rattle.cg_moves.specs.declared.player.Player.{Player}
use Rattle.cg_moves.specs.declared.player.Player.TheVariants.{Left, Right}
use Rattle.cg_moves.specs.Connected.{Edge}
use Rattle.cg_moves.specs.Rising.{counted, rising}
use Rattle.cg_moves.specs.Rules.{GameRules, In}

-- `.`
abbrev pub free : ℕ
free = 46

-- `x` is Left's colour, and `o` Right's
abbrev pub own : Player → ℕ
own Left = 120
own Right = 111

abbrev pub other : Player → ℕ
other Left = 111
other Right = 120

-- the colour that no neighbour of the vertex may have
abbrev pub forbidden : Bool → Player → ℕ
forbidden snort player = if snort then other player else own player

-- an edge joins the two vertices
abbrev pub are_adjacent : List Edge → ℕ → ℕ → Bool
are_adjacent edges k l = list_any (λ (e : Edge). ((e.one == k) && (e.other == l)) || ((e.one == l) && (e.other == k))) edges

-- the player may turn the vertex into the own colour
abbrev pub may_colour : Bool → List Edge → Player → List ℕ → ℕ → Bool
may_colour snort edges player cells k =
    (slice_index cells k == free) && not (list_any (λ l. are_adjacent edges k l && (slice_index cells l == forbidden snort player)) (counted 0 (length cells)))

abbrev pub colourings_at : Bool → List Edge → Player → List ℕ → ℕ → List (List ℕ)
colourings_at snort edges player cells k =
    if may_colour snort edges player cells k then slice_set cells k (own player) ∷ [] else []

-- the moves, in rising order of the bytes of the cells, each once
abbrev pub colourings_of : Bool → List Edge → Player → List ℕ → List (List ℕ)
colourings_of snort edges player cells =
    rising (flat_map (colourings_at snort edges player cells) (counted 0 (length cells)))

-- a board is a row with a cell for each of so many vertices, with the symbols `.`, `x` and `o`; edges name vertices by their
-- places, and each move lowers the number of free vertices
abbrev pub colouring : Bool → ℕ → List Edge → GameRules
colouring snort vertices edges = record {
  has = λ p. bytes_eq p.symbols (codes ".xo") && (length p.cells == vertices);
  moves = λ player p. colourings_of snort edges player p.cells;
  measure = λ p. count_by (λ c. c == free) p.cells;
  number = 0;
  cut = None;
}

-- ---- the same, said of one move: the law function `moves` says so

-- an edge joins the two vertices
abbrev pub AreNeighbours : List Edge → ℕ → ℕ → Type 0
AreNeighbours edges k l = In (record { one = k; other = l }) edges ⊎ In (record { one = l; other = k }) edges

-- a move of the player leads from these cells to those: it gives a free vertex, no neighbour of which has the forbidden
-- colour, the own colour
pub record IsColouringMove (snort : Bool) (edges : List Edge) (player : Player) (cells after : List ℕ) : Type 0 where
  pub vertex : ℕ
  pub within : vertex < length cells
  pub was_free : slice_index cells vertex ≡ free
  pub allowed : (l : ℕ) → l < length cells → AreNeighbours edges vertex l → slice_index cells l ≢ forbidden snort player
  pub written : after ≡ slice_set cells vertex (own player)

-- Hackenbush on graphs. Berlekamp, Conway, Guy, Winning Ways, chapters 1 and 7: a player cuts an edge of one's own colour or a
-- green one, and what is no longer joined to the ground is gone.
use Rattle.std.specs.Prelude.{◌≡◌, ◌≢◌, ℕ, ◌==◌, ◌&&◌, ◌||◌, Bool, true, not, if◌then◌else◌, List, [], ◌∷◌, codes, count_by, length, slice_set, None}
use Rattle.std.specs.List.{flat_map}
use Rattle.std.specs.Str.{bytes_eq}
use Rattle.cg_moves.specs.declared.player.Player.{Player}
use Rattle.cg_moves.specs.declared.player.Player.TheVariants.{Left, Right}
use Rattle.cg_moves.specs.Grid.{Grid}
use Rattle.cg_moves.specs.Rising.{counted, rising}
use Rattle.cg_moves.specs.Rules.{GameRules}
use Rattle.cg_graph.specs.Paths.{Edge, IsSettled, colour, gone, settled}

-- `b`, the colour of Left's edges
abbrev pub blue : ℕ
blue = 98

-- `r`, the colour of Right's edges
abbrev pub red : ℕ
red = 114

-- `g`, the colour of the edges that both may cut
abbrev pub green : ℕ
green = 103

-- the player may cut an edge of the colour
abbrev pub may_cut : Player → ℕ → Bool
may_cut Left c = (c == blue) || (c == green)
may_cut Right c = (c == red) || (c == green)

-- the cells after the edge at the place is cut: then the edges that aren't joined to the ground go
unfoldable pub cut : List Edge → List ℕ → ℕ → List ℕ
cut edges cells k = settled edges (slice_set cells k gone)

-- the moves by the edge at the place: one, where the player may cut it
abbrev pub cuts_at : List Edge → Player → List ℕ → ℕ → List (List ℕ)
cuts_at edges player cells k = if may_cut player (colour cells k) then cut edges cells k ∷ [] else []

-- the moves, in rising order of the bytes of the cells, each once
abbrev pub cuts_of : List Edge → Player → List ℕ → List (List ℕ)
cuts_of edges player cells = rising (flat_map (cuts_at edges player cells) (counted 0 (length cells)))

-- a move of the player leads from these cells to those: it cuts an edge that the player may cut. The law function `moves`
-- says that these are the moves
pub record IsCutMove (edges : List Edge) (player : Player) (cells after : List ℕ) : Type 0 where
  pub place : ℕ
  pub may : may_cut player (colour cells place) ≡ true
  pub left : after ≡ cut edges cells place

-- a board is a row with a cell for each edge, with the symbols `.`, `b`, `r` and `g`; each move lowers the number of edges
-- that are there
abbrev pub hackenbush : List Edge → GameRules
hackenbush edges = record {
  has = λ p. bytes_eq p.symbols (codes ".brg") && (length p.cells == length edges);
  moves = λ player p. cuts_of edges player p.cells;
  measure = λ p. count_by (λ c. not (c == gone)) p.cells;
  number = 0;
  cut = None;
}

-- a board of the game without green edges on which each edge that is there is joined to the ground, as after each move
pub record IsRedBlue (edges : List Edge) (p : Grid) : Type 0 where
  pub has : (hackenbush edges).has p ≡ true
  pub settled : IsSettled edges p.cells
  pub no_green : (k : ℕ) → colour p.cells k ≢ green

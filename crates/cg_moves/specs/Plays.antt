-- Two ways to go over boards: from board to board by moves, and from piece to piece.
use Rattle.std.specs.Prelude.{◌≡◌, ℕ, ◌<◌, Bool, true, List, [], ◌∷◌, ◌++◌}
use Rattle.std.specs.List.{flat_map}
use Rattle.cg_moves.specs.declared.edges.Edges.{Edges}
use Rattle.cg_moves.specs.declared.edges.Edges.TheVariants.{Moves, Pieces}
use Rattle.cg_moves.specs.Grid.{Grid}
use Rattle.cg_moves.specs.Graph.{uncut}
use Rattle.cg_moves.specs.PieceReach.{all_piece_reached}
use Rattle.cg_moves.specs.Reach.{all_reached}
use Rattle.cg_moves.specs.Rules.{GameRules, In, cuts, followers, pieces}

pub record Play : Type 0 where
  -- whether a board is one of those
  pub has : Grid → Bool
  -- the boards that come next after a board
  pub next : Grid → List Grid
  -- a number that is lower at each of them
  pub measure : Grid → ℕ
  -- all boards that come after a board, as often as they do, and the board itself
  pub all : Grid → List Grid

-- the next boards are such boards with the same symbols and a lower measure; those that come after a board are those that come
-- after its next ones, and itself
pub record IsPlay (w : Play) : Type 0 where
  pub has : (p q : Grid) → w.has p ≡ true → In q (w.next p) → w.has q ≡ true
  pub symbols : (p q : Grid) → w.has p ≡ true → In q (w.next p) → q.symbols ≡ p.symbols
  pub lowers : (p q : Grid) → w.has p ≡ true → In q (w.next p) → w.measure q < w.measure p
  pub all : (p : Grid) → w.has p ≡ true → w.all p ≡ flat_map w.all (w.next p) ++ (p ∷ [])

-- the pieces of the boards that moves on a board lead to
abbrev pub next_pieces : GameRules → Grid → List Grid
next_pieces r p = flat_map (pieces r) (followers r p)

-- the boards that play comes to from a piece, in pieces, and the piece itself
abbrev pub pieces_after : GameRules → Grid → List Grid
pieces_after r p = flat_map (all_piece_reached r) (followers r p) ++ (p ∷ [])

abbrev pub next_of : GameRules → Edges → Grid → List Grid
next_of r Moves = followers r
next_of r Pieces = next_pieces r

abbrev pub all_of : GameRules → Edges → Grid → List Grid
all_of r Moves = all_reached r
all_of r Pieces = pieces_after r

abbrev pub play_of : GameRules → Edges → Play
play_of r edges = record {
  has = r.has;
  next = next_of r edges;
  measure = r.measure;
  all = all_of r edges;
}

-- the parts of a board: the board alone, or its pieces
abbrev pub parts_of : GameRules → Edges → Grid → List Grid
parts_of r Moves = uncut
parts_of r Pieces = pieces r

-- the rules cut where pieces are asked for
abbrev pub MayGo : GameRules → Edges → Type 0
MayGo r Moves = Unit {0}
MayGo r Pieces = cuts r ≡ true

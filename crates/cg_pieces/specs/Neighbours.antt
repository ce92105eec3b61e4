-- Games in which a move changes two orthogonally adjacent cells that form pieces.
use Rattle.std.specs.Prelude.{◌≡◌, ℕ, ◌+◌, ◌*◌, ◌<◌, ◌==◌, ◌&&◌, ◌||◌, Bool, false, true, not, nat_le, if◌then◌else◌}
use Rattle.std.specs.Prelude.{Some, List, [], ◌∷◌, count_by, filter, length, slice_index, slice_set}
use Rattle.std.specs.List.{flat_map, list_all, list_any}
use Rattle.cg_moves.specs.declared.player.Player.{Player}
use Rattle.cg_moves.specs.declared.player.Player.TheVariants.{Left, Right}
use Rattle.cg_moves.specs.Connected.{Edge, connected}
use Rattle.cg_moves.specs.Grid.{Grid}
use Rattle.cg_moves.specs.Rising.{counted}
use Rattle.cg_moves.specs.Rules.{GameRules, In}
use Rattle.cg_pieces.specs.Boxes.{boxed, column_of, cropped, row_of, set_box}
use Rattle.cg_pieces.specs.Cells.{CellGame, LegalMove, Linked, pieces_of}

-- the second cell is directly below the first, or the next in its row
abbrev pub is_below : ℕ → ℕ → ℕ → Bool
is_below width k l = (row_of width k + 1 == row_of width l) && (column_of width k == column_of width l)

abbrev pub is_beside : ℕ → ℕ → ℕ → Bool
is_beside width k l = (row_of width k == row_of width l) && (column_of width k + 1 == column_of width l)

-- orthogonally adjacent cells
abbrev pub is_next : ℕ → ℕ → ℕ → Bool
is_next width k l =
    (is_below width k l || is_below width l k) || (is_beside width k l || is_beside width l k)

pub record Neighbours : Type 0 where
  -- the symbols of the boards
  pub symbols : List ℕ
  -- the symbol of the other cells of a piece
  pub blank : ℕ
  -- cells with this symbol form pieces
  pub forms_pieces : ℕ → Bool
  -- a player has a move on two adjacent cells with these symbols, of which the second is below the first, or beside it
  pub allowed : Player → Bool → Bool → ℕ → ℕ → Bool
  -- the symbols after the move
  pub first_after : Player → ℕ
  pub second_after : Player → ℕ

module _ (n : Neighbours) where
  abbrev pub is_piece_cell : Grid → ℕ → Bool
  is_piece_cell p k = n.forms_pieces (slice_index p.cells k)

  abbrev pub may_move : Player → Grid → ℕ → ℕ → Bool
  may_move player p k l = (is_piece_cell p k && is_piece_cell p l) && (is_next p.columns k l && n.allowed player (is_below p.columns k l) (is_beside p.columns k l) (slice_index p.cells k) (slice_index p.cells l))

  abbrev pub are_linked : Grid → ℕ → ℕ → Bool
  are_linked p k l = (is_piece_cell p k && is_piece_cell p l) && is_next p.columns k l

  -- the pairs of adjacent cells that form pieces
  abbrev pub link : Grid → ℕ → ℕ → List Edge
  link p k l = if are_linked p k l then record { one = k; other = l } ∷ [] else []

  abbrev pub links : Grid → List Edge
  links p = flat_map (λ k. flat_map (link p k) (counted 0 (length p.cells))) (counted 0 (length p.cells))

  -- a row of cells that form pieces, each adjacent to the next, leads from the one cell to the other
  abbrev pub AreJoined : Grid → ℕ → ℕ → Type 0
  AreJoined p = Linked (is_piece_cell p) (is_next p.columns)

  -- the two cells are in one joined set: the law function `joined` says that this is so exactly where such a row leads
  unfoldable pub are_joined : Grid → ℕ → ℕ → Bool
  are_joined p k l = connected (links p) k l

  -- the cell is the first of its set, in which some player has a move
  abbrev pub is_least : Grid → ℕ → Bool
  is_least p k = list_all (λ l. not (are_joined p k l) || nat_le k l) (counted 0 (length p.cells))

  abbrev pub has_move_at : Grid → ℕ → Bool
  has_move_at p k = list_any (λ l. may_move Left p k l || may_move Right p k l) (counted 0 (length p.cells))

  abbrev pub has_move : Grid → ℕ → Bool
  has_move p k = list_any (λ l. are_joined p k l && has_move_at p l) (counted 0 (length p.cells))

  abbrev pub is_first : Grid → ℕ → Bool
  is_first p k = is_piece_cell p k && (is_least p k && has_move p k)

  abbrev pub cell_game : CellGame
  cell_game = record {
    is_open = is_piece_cell;
    adjacent = λ p. is_next p.columns;
    legal = may_move;
    after = λ player p k l. slice_set (slice_set p.cells k (n.first_after player)) l (n.second_after player);
    firsts = λ p. filter (is_first p) (counted 0 (length p.cells));
    piece = λ p k. cropped n.blank (are_joined p k) p;
    place = λ p s k. boxed (set_box (are_joined p s) p) p.columns k;
  }

  -- blank cells form no pieces, and no cells do past the end
  pub record IsNeighbours : Type 0 where
    pub blank : n.forms_pieces n.blank ≡ false
    pub past : n.forms_pieces 0 ≡ false

  -- the number of cells that form pieces
  abbrev pub piece_cells : Grid → ℕ
  piece_cells p = count_by n.forms_pieces p.cells

  -- the rules are those of such a game, and cut its boards into the joined sets
  pub record CutsNeighbours (r : GameRules) : Type 0 where
    pub cut : r.cut ≡ Some (pieces_of cell_game)
    pub measure : (p : Grid) → r.measure p ≡ piece_cells p
    pub wide : (p : Grid) → r.has p ≡ true → 0 < p.columns
    -- a board of the game is told by its symbols, and that it has its cells in rows and columns
    pub has : (p q : Grid) → r.has p ≡ true → q.symbols ≡ p.symbols → 0 < q.columns
        → length q.cells ≡ q.rows * q.columns → r.has q ≡ true
    pub legal_move : (player : Player) (p : Grid) (cells : List ℕ) → r.has p ≡ true → In cells (r.moves player p)
        → LegalMove cell_game player p cells
    pub move : (player : Player) (p : Grid) (one other : ℕ) → r.has p ≡ true → may_move player p one other ≡ true
        → In (cell_game.after player p one other) (r.moves player p)

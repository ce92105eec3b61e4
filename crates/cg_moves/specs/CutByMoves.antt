-- Boards cut so that each move of a board is a move in one piece.
use Rattle.std.specs.Prelude.{◌≡◌, ℕ, true, List, ◌∷◌, ◌++◌}
use Rattle.cg_moves.specs.declared.player.Player.{Player}
use Rattle.cg_moves.specs.Grid.{Grid, with_cells}
use Rattle.cg_moves.specs.Lawful.{ArePieces}
use Rattle.cg_moves.specs.Reordered.{IsReordered}
use Rattle.cg_moves.specs.Rules.{GameRules, In, pieces}

module _ (r : GameRules) where
  -- where q is a piece of p, between the pieces before it and those behind it: the pieces of p with these cells are, in some
  -- order, those of q with these cells and the other pieces of p
  pub record IsSameMove (p : Grid) (cells : List ℕ) (before : List Grid) (q : Grid) (moved : List ℕ) (behind : List Grid)
      : Type 0 where
    pub cut : pieces r p ≡ before ++ (q ∷ behind)
    pub others : IsReordered (pieces r (with_cells p cells)) (before ++ (pieces r (with_cells q moved) ++ behind))

  -- a move of the player in a piece of p that does the same as the move of p to these cells
  pub record MoveInPiece (player : Player) (p : Grid) (cells : List ℕ) : Type 0 where
    pub before : List Grid
    pub piece : Grid
    pub behind : List Grid
    pub moved : List ℕ
    pub is_move : In moved (r.moves player piece)
    pub same_move : IsSameMove p cells before piece moved behind

  -- a move of p that does the same as the move in this piece to these cells
  pub record MoveOfBoard (player : Player) (p : Grid) (before : List Grid) (q : Grid) (moved : List ℕ) (behind : List Grid)
      : Type 0 where
    pub cells : List ℕ
    pub is_move : In cells (r.moves player p)
    pub same_move : IsSameMove p cells before q moved behind

  -- Each move of a board is a move in a piece that leaves the other pieces as they are, and each move in a piece is such a move
  -- of the board. So a board is the sum of its pieces: the law function `cut_by_moves`
  pub record IsCutByMoves : Type 0 where
    pub each : ArePieces r
    pub in_piece : (player : Player) (p : Grid) (cells : List ℕ) → r.has p ≡ true → In cells (r.moves player p)
        → MoveInPiece player p cells
    pub of_board : (player : Player) (p : Grid) (before : List Grid) (q : Grid) (behind : List Grid) (moved : List ℕ)
        → r.has p ≡ true → pieces r p ≡ before ++ (q ∷ behind) → In moved (r.moves player q)
        → MoveOfBoard player p before q moved behind

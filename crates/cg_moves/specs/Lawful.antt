-- The laws of the rules of a game.
use Rattle.std.specs.Prelude.{◌≡◌, ℕ, ◌<◌, ◌≤◌, true, List, [], ◌∷◌}
use Rattle.cg_moves.specs.declared.player.Player.{Player}
use Rattle.cg_moves.specs.Grid.{Grid, with_cells}
use Rattle.cg_moves.specs.Raw.{IsSumOfPieces}
use Rattle.cg_moves.specs.Rules.{GameRules, In, cuts, followers, pieces}

module _ (r : GameRules) where
  -- each move of a board of the game leads to a board of the game with a lower measure. Rows, columns and symbols stay, since
  -- a move changes cells alone
  pub record AreMoves : Type 0 where
    pub stays : (player : Player) (p : Grid) (cells : List ℕ) → r.has p ≡ true → In cells (r.moves player p)
        → r.has (with_cells p cells) ≡ true
    pub lowers : (player : Player) (p : Grid) (cells : List ℕ) → r.has p ≡ true → In cells (r.moves player p)
        → r.measure (with_cells p cells) < r.measure p

  -- each piece of a board is a board of the game with the same symbols, has a move, and is its own only piece; its measure is
  -- at most that of the board
  pub record ArePieces : Type 0 where
    pub has : (p q : Grid) → r.has p ≡ true → In q (pieces r p) → r.has q ≡ true
    pub symbols : (p q : Grid) → r.has p ≡ true → In q (pieces r p) → q.symbols ≡ p.symbols
    pub some_move : (p q : Grid) → r.has p ≡ true → In q (pieces r p) → ¬ (followers r q ≡ [])
    pub uncut : (p q : Grid) → r.has p ≡ true → In q (pieces r p) → pieces r q ≡ q ∷ []
    pub measure : (p q : Grid) → r.has p ≡ true → In q (pieces r p) → r.measure q ≤ r.measure p

  -- what it takes to cut boards into pieces: a board is the sum of its pieces, up to equality of games. So cells that are worth
  -- 0 need not be in any piece
  pub record IsCut : Type 0 where
    pub each : ArePieces
    pub sum : (p : Grid) → r.has p ≡ true → IsSumOfPieces r p

  pub record IsLawful : Type 0 where
    pub moves : AreMoves
    pub number : r.number < 16
    pub cut : cuts r ≡ true → IsCut

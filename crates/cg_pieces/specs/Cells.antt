-- Boards that fall into sets of joined cells, and moves that touch cells of one set only.
use Rattle.std.specs.Prelude.{◌≡◌, ◌↔◌, ◌⊎◌, ℕ, ◌≤◌, Bool, true, Some, List, map}
use Rattle.cg_moves.specs.declared.player.Player.{Player}
use Rattle.cg_moves.specs.Grid.{Grid, with_cells}
use Rattle.cg_moves.specs.Rules.{GameRules, In}
use Rattle.cg_form.specs.Firsts.{EachOnce}

-- a row of open cells, each adjacent to the next, leads from k to the cell; k alone is such a row
pub data Linked (is_open : ℕ → Bool) (adjacent : ℕ → ℕ → Bool) (k : ℕ) : ℕ → Type 0 where
  here : (l : ℕ) → k ≡ l → Linked is_open adjacent k l
  step : (m l : ℕ) → Linked is_open adjacent k m → is_open m ≡ true → is_open l ≡ true → adjacent m l ≡ true
      → Linked is_open adjacent k l

-- what of a game on cells its pieces are made from
pub record CellGame : Type 0 where
  -- the cell is one of those that form pieces
  pub is_open : Grid → ℕ → Bool
  -- the two cells are orthogonally adjacent
  pub adjacent : Grid → ℕ → ℕ → Bool
  -- the player has a move on these two cells
  pub legal : Player → Grid → ℕ → ℕ → Bool
  -- the cells after it
  pub after : Player → Grid → ℕ → ℕ → List ℕ
  -- the first cells of the sets in which some player has a move, in order
  pub firsts : Grid → List ℕ
  -- the board of the set of a cell
  pub piece : Grid → ℕ → Grid
  -- where a cell stands on the board of the set of the first cell given
  pub place : Grid → ℕ → ℕ → ℕ

module _ (g : CellGame) where
  -- the two cells are in one set
  abbrev pub Joined : Grid → ℕ → ℕ → Type 0
  Joined p k l = Linked (g.is_open p) (g.adjacent p) k l

  -- the cell is the first of its set, and some player has a move in the set
  pub record First (p : Grid) (k : ℕ) : Type 0 where
    pub is_open : g.is_open p k ≡ true
    pub least : (l : ℕ) → Joined p k l → k ≤ l
    pub player : Player
    pub one : ℕ
    pub other : ℕ
    pub legal : g.legal player p one other ≡ true
    pub joined : Joined p k one

  abbrev pub pieces_of : Grid → List Grid
  pieces_of p = map (g.piece p) (g.firsts p)

  -- no cell stands twice in the list
  abbrev pub Distinct : List ℕ → Type 0
  Distinct ks = EachOnce ks

  pub record IsCellGame : Type 0 where
    pub symmetric : (p : Grid) (k l : ℕ) → g.adjacent p k l ≡ true → g.adjacent p l k ≡ true
    pub legal_open : (player : Player) (p : Grid) (k l : ℕ) → g.legal player p k l ≡ true
        → (g.is_open p k ≡ true) × (g.is_open p l ≡ true) × (g.adjacent p k l ≡ true)
    pub decided : (p : Grid) (k l : ℕ) → Joined p k l ⊎ (¬ Joined p k l)
    pub distinct : (p : Grid) → Distinct (g.firsts p)
    pub first : (p : Grid) (k : ℕ) → In k (g.firsts p) ↔ First p k

  -- p after a move in the set of s, and the piece of that set after the same move
  pub record OneSet (p : Grid) (s : ℕ) (p_after piece_after : Grid) : Type 0 where
    -- no cell becomes open, and which cells are adjacent stays
    pub fewer : (k : ℕ) → g.is_open p_after k ≡ true → g.is_open p k ≡ true
    pub adjacent : (k l : ℕ) → g.adjacent p_after k l ≡ g.adjacent p k l
    -- cells outside the set stay as they are
    pub apart_open : (k : ℕ) → ¬ Joined p s k → g.is_open p_after k ≡ g.is_open p k
    pub apart_legal : (player : Player) (k l : ℕ) → ¬ Joined p s k → ¬ Joined p s l
        → g.legal player p_after k l ≡ g.legal player p k l
    pub apart_piece : (k : ℕ) → ¬ Joined p s k → ((l : ℕ) → Joined p_after k l ↔ Joined p k l)
        → g.piece p_after k ≡ g.piece p k
    -- cells of the set stand in the piece, in the same order, adjacent where they were
    pub place_order : (k l : ℕ) → Joined p s k → Joined p s l → (k ≤ l) ↔ (g.place p s k ≤ g.place p s l)
    pub place_open : (k : ℕ) → Joined p s k → g.is_open piece_after (g.place p s k) ≡ g.is_open p_after k
    pub place_adjacent : (k l : ℕ) → Joined p s k → Joined p s l
        → g.adjacent piece_after (g.place p s k) (g.place p s l) ≡ g.adjacent p_after k l
    pub place_legal : (player : Player) (k l : ℕ) → Joined p s k → Joined p s l
        → g.legal player piece_after (g.place p s k) (g.place p s l) ≡ g.legal player p_after k l
    pub placed : (m : ℕ) → g.is_open piece_after m ≡ true → (k : ℕ) × Joined p s k × (m ≡ g.place p s k)
    -- the board of a set is the same in the piece
    pub place_piece : (k : ℕ) → Joined p s k
        → ((l : ℕ) → Joined p s l → Joined p_after k l ↔ Joined piece_after (g.place p s k) (g.place p s l))
        → g.piece piece_after (g.place p s k) ≡ g.piece p_after k

  -- the player's move on the two cells leads to these cells
  pub record LegalMove (player : Player) (p : Grid) (cells : List ℕ) : Type 0 where
    pub one : ℕ
    pub other : ℕ
    pub legal : g.legal player p one other ≡ true
    pub is : cells ≡ g.after player p one other

  -- The rules cut boards of cells: the moves are those on two cells, the pieces those of the sets. A piece shows its set as it
  -- is on the board, and does so after the same move on both.
  pub record CutsByCells (r : GameRules) : Type 0 where
    pub cut : r.cut ≡ Some pieces_of
    pub has : (p : Grid) (s : ℕ) → r.has p ≡ true → In s (g.firsts p) → r.has (g.piece p s) ≡ true
    pub symbols : (p : Grid) (s : ℕ) → r.has p ≡ true → In s (g.firsts p) → (g.piece p s).symbols ≡ p.symbols
    pub measure : (p : Grid) (s : ℕ) → r.has p ≡ true → In s (g.firsts p) → r.measure (g.piece p s) ≤ r.measure p
    pub legal_move : (player : Player) (p : Grid) (cells : List ℕ) → r.has p ≡ true → In cells (r.moves player p)
        → LegalMove player p cells
    pub move : (player : Player) (p : Grid) (one other : ℕ) → r.has p ≡ true → g.legal player p one other ≡ true
        → In (g.after player p one other) (r.moves player p)
    pub shown : (p : Grid) (s : ℕ) → r.has p ≡ true → In s (g.firsts p) → OneSet p s p (g.piece p s)
    pub shown_after : (player : Player) (p : Grid) (s one other : ℕ) → r.has p ≡ true → In s (g.firsts p)
        → g.legal player p one other ≡ true → Joined p s one
        → OneSet p s (with_cells p (g.after player p one other)) (with_cells (g.piece p s)
        (g.after player (g.piece p s) (g.place p s one) (g.place p s other)))

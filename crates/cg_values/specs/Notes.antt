-- On which cells the values of boards are noted.
use Rattle.std.specs.Prelude.{◌≡◌, ◌≢◌, ◌⊎◌, ℕ, ◌≤◌, All, true, Some, List, length, map}
use Rattle.cg_cells.specs.Meaning.{Has}
use Rattle.cg_cells.specs.Store.{State, thing_at}
use Rattle.cg_form.specs.Game.{Game}
use Rattle.cg_nodes.specs.Boards.{AreWritten, symbols}
use Rattle.cg_nodes.specs.Meant.{Meant, board}
use Rattle.cg_moves.specs.Grid.{Grid, IsGrid}
use Rattle.cg_moves.specs.PlaneBits.{index_of}
use Rattle.cg_moves.specs.Raw.{raw}
use Rattle.cg_moves.specs.Rules.{GameRules}

-- the places of the symbols of the cells in the row of symbols, counted from 0
abbrev pub places : List ℕ → List ℕ → List ℕ
places symbols cells = map (index_of symbols) cells

-- The number is one of the four, each board of the game has as many symbols as boards of that number, and its tree is the
-- form that a board cell of that number has with the contents in which its cells are written
pub record IsNumbered (form : ℕ → ℕ → ℕ → List ℕ → Game) (r : GameRules) : Type 0 where
  pub some : 1 ≤ r.number
  pub four : r.number ≤ 4
  pub as_many : (p : Grid) → IsGrid p → r.has p ≡ true → length p.symbols ≡ symbols r.number
  pub forms : (p : Grid) → IsGrid p → r.has p ≡ true → (contents : List ℕ)
      → AreWritten (places p.symbols p.cells) contents → form r.number p.rows p.columns contents ≡ raw r p

-- positions aren't noted, or they are noted as what they are
abbrev pub MayNote : (ℕ → ℕ → ℕ → List ℕ → Game) → GameRules → Type 0
MayNote form r = (r.number ≡ 0) ⊎ IsNumbered form r

-- the cell stands for the board, by the number of its game, its rows and columns, and the contents of its cells
pub record IsCellOf {R : Type 0} (s : State Meant R) (r : GameRules) (p : Grid) (cell : ℕ) : Type 0 where
  pub contents : List ℕ
  pub written : AreWritten (places p.symbols p.cells) contents
  pub stands : thing_at s cell ≡ Some (board r.number p.rows p.columns contents)

-- the board's cell is known, and a value is noted on it
pub record IsNoted {R : Type 0} (s : State Meant R) (r : GameRules) (p : Grid) : Type 0 where
  pub cell : ℕ
  pub known : IsCellOf s r p cell
  pub noted : Has s.noted cell

-- so are all of these boards, unless the game's number is 0
abbrev pub AreNoted : {R : Type 0} → State Meant R → GameRules → List Grid → Type 0
AreNoted {R} s r ps = r.number ≢ 0 → All (IsNoted s r) ps

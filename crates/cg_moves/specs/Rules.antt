-- What the rules of a game mean.
use Rattle.std.specs.Prelude.{ℕ, Bool, true, false, Option, Some, None, List, [], ◌∷◌, ◌++◌, map}
use Rattle.cg_form.specs.Firsts as firsts
use Rattle.cg_moves.specs.declared.player.Player.{Player}
use Rattle.cg_moves.specs.declared.player.Player.TheVariants.{Left, Right}
use Rattle.cg_moves.specs.Grid.{Grid, with_cells}

pub record GameRules : Type 0 where
  -- whether a board is one of the game
  pub has : Grid → Bool
  -- the moves of a player on a board, in order, by the cells that they lead to
  pub moves : Player → Grid → List (List ℕ)
  -- a number that each move lowers
  pub measure : Grid → ℕ
  -- the number of the game, or 0 where positions aren't noted in a table
  pub number : ℕ
  -- the pieces of each board, where the rules cut boards
  pub cut : Option (Grid → List Grid)

-- x is one of the list
abbrev pub In : {X : Type 0} → X → List X → Type 0
In {X} x ys = firsts.In x ys

abbrev pub is_some : {X : Type 0} → Option X → Bool
is_some {X} None = false
is_some {X} (Some x) = true

-- the pieces by such a cut. Where there is none, a board is its own only piece
abbrev pub pieces_by : Option (Grid → List Grid) → Grid → List Grid
pieces_by None p = p ∷ []
pieces_by (Some cut) p = cut p

module _ (r : GameRules) where
  -- the boards that a player's moves lead to
  abbrev pub boards_after : Player → Grid → List Grid
  boards_after player p = map (with_cells p) (r.moves player p)

  -- those of Left's moves, then those of Right's
  abbrev pub followers : Grid → List Grid
  followers p = boards_after Left p ++ boards_after Right p

  -- whether the rules cut boards into pieces
  abbrev pub cuts : Bool
  cuts = is_some r.cut

  abbrev pub pieces : Grid → List Grid
  pieces = pieces_by r.cut

-- The tree of all moves from a board. Siegel, Combinatorial Game Theory (2013), I.1: a position is the game whose options are
-- the positions that the players can move to.
use Rattle.std.specs.Prelude.{◌≡◌, ℕ, zero, suc, map, []}
use Rattle.cg_form.specs.Game.{Game, node}
use Rattle.cg_form.specs.Order.{Equal}
use Rattle.cg_moves.specs.declared.player.Player.TheVariants.{Left, Right}
use Rattle.cg_moves.specs.Grid.{Grid}
use Rattle.cg_moves.specs.Rules.{GameRules, boards_after, pieces}
use Rattle.cg_moves.specs.Total.{total}

module _ (r : GameRules) where
  -- the tree of so many moves at most
  unfoldable pub raw_within : ℕ → Grid → Game
  raw_within zero p = node [] []
  raw_within (suc n) p = node (map (λ q. raw_within n q) (boards_after r Left p)) (map (λ q. raw_within n q)
      (boards_after r Right p))

  -- The tree of all moves. Each move lowers the measure, so no play from a board has more moves than that; the law function
  -- `raw` says the rule without the bound
  unfoldable pub raw : Grid → Game
  raw p = raw_within (suc (r.measure p)) p

  -- the tree of the board is that of the boards that Left's moves lead to and of those that Right's moves lead to
  abbrev pub IsTreeOfMoves : Grid → Type 0
  IsTreeOfMoves p = raw p ≡ node (map raw (boards_after r Left p)) (map raw (boards_after r Right p))

  -- the board is the sum of its pieces, up to equality of games
  abbrev pub IsSumOfPieces : Grid → Type 0
  IsSumOfPieces p = Equal (raw p) (total (map raw (pieces r p)))

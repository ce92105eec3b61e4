-- A game of two lists of indexes, while it is made canonical.
use Rattle.std.specs.Prelude.{◌≡◌, ℕ, Bool, Some, List}
use Rattle.cg_form.specs.Game.{Game, node}
use Rattle.cg_form.specs.Side.{at_most}
use Rattle.cg_form.specs.Simple.{NoNumber}
use Rattle.cg_arena.specs.declared.order_memo.OrderMemo.{OrderMemo}
use Rattle.cg_arena.specs.declared.verdicts.Verdicts.{Verdicts}
use Rattle.cg_arena.specs.declared.unreduced.Unreduced.{Unreduced}
use Rattle.cg_arena.specs.Keys.{AreKeys}
use Rattle.cg_arena.specs.Arena.{AreIndexes, IsIndex, game_of, games_of}
use Rattle.cg_arena.specs.Summaries.{HasCuts}
use Rattle.cg_arena.specs.OrderMemos.{AreRight}
use Rattle.cg_arena.specs.Verdict.{verdict}

abbrev pub unreduced_game : List Game → Unreduced → Game
unreduced_game gs w = node (games_of gs w.lefts.now) (games_of gs w.rights.now)

-- the unreduced game equals no number, and the cuts of its summary are its own, with their keys
pub record UnreducedHolds (gs : List Game) (w : Unreduced) : Type 0 where
  pub lefts : AreIndexes gs w.lefts.now
  pub rights : AreIndexes gs w.rights.now
  pub no_number : NoNumber (unreduced_game gs w)
  pub cuts : HasCuts (unreduced_game gs w) w.summary
  pub keys : AreKeys w.summary w.keys

-- each verdict is right
pub record AreVerdicts (gs : List Game) (w : Unreduced) (v : Verdicts) : Type 0 where
  pub each : (left : Bool) (index : ℕ) (answer : Bool) → verdict v left index ≡ Some answer
      → IsIndex gs index × (answer ≡ at_most left (game_of gs index) (unreduced_game gs w))

-- what is known while the unreduced game is made canonical: the facts of the unreduced game, its verdicts, and the answers to comparisons
pub record AreKnown (gs : List Game) (w : Unreduced) (answers : OrderMemo) (v : Verdicts) : Type 0 where
  pub unreduced : UnreducedHolds gs w
  pub verdicts : AreVerdicts gs w v
  pub right : AreRight gs answers

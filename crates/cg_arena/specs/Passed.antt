-- Options in whose places others stand.
use Rattle.std.specs.Prelude.{◌≡◌, ℕ, Bool, Some, List}
use Rattle.cg_form.specs.Bypass.{Covered, Grown}
use Rattle.cg_form.specs.Game.{Game}
use Rattle.cg_arena.specs.declared.substitutes.Substitutes.{Substitutes}
use Rattle.cg_arena.specs.declared.unreduced.Unreduced.{Unreduced}
use Rattle.cg_arena.specs.Arena.{AreIndexes, IsIndex, game_of, games_of}
use Rattle.cg_arena.specs.Verdict.{answer_for}
use Rattle.cg_arena.specs.UnreducedGames.{unreduced_game}

abbrev pub WasPassed : Substitutes → ℕ → Type 0
WasPassed o index = (b : Bool) × (answer_for o.passed index ≡ Some b)

-- the items are indexes, and cover each option that was passed
pub record AreSubstitutes (gs : List Game) (left : Bool) (w : Unreduced) (o : Substitutes) : Type 0 where
  pub indexes : AreIndexes gs o.items.items
  pub passed : (index : ℕ) → WasPassed o index
      → IsIndex gs index × Covered left (unreduced_game gs w) (games_of gs o.items.items) (game_of gs index)

-- from the substitutes o the substitutes r were made, in which others stand in the places of the games of P, too
pub record Replaced (gs : List Game) (left : Bool) (w : Unreduced) (o r : Substitutes) (P : Game → Type 0) : Type 0 where
  pub out : AreSubstitutes gs left w r
  pub grown : Grown left (unreduced_game gs w) (games_of gs o.items.items) (games_of gs r.items.items)
  pub covered : (a : Game) → P a → Covered left (unreduced_game gs w) (games_of gs r.items.items) a

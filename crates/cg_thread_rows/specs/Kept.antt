-- The games of answers.
use Rattle.std.specs.Prelude.{◌≡◌, ℕ, List, Some, IfSome, slice_get}
use Rattle.cg_cells.specs.Store.{State}
use Rattle.cg_nodes.specs.Meant.{Meant}
use Rattle.cg_nodes.specs.Games.{IsGame}
use Rattle.cg_eval.specs.declared.answered.Answered.{Answered}

-- the handle of each of these answers that has one stands for a game
abbrev pub HaveGames : {R : Type 0} → List Answered → State Meant R → Type 0
HaveGames {R} answers s = (n : ℕ) (answer : Answered) → slice_get answers n ≡ Some answer → IfSome answer.handle (IsGame s)

-- Handles of positions that are listed one after another: those that were found, and those that a walk adds.
use Rattle.std.specs.Prelude.{◌≡◌, ℕ, List}
use Rattle.cg_form.specs.Extended.{IsClosed, extended}
use Rattle.cg_form.specs.Game.{Game}
use Rattle.cg_cells.specs.Store.{State}
use Rattle.cg_nodes.specs.Meant.{Meant}
use Rattle.cg_nodes.specs.Games.{AreDistinct, AreGames, games_at}

-- the handles of positions, each once, and with each its own positions
pub record AreFound {R : Type 0} (s : State Meant R) (handles : List ℕ) : Type 0 where
  pub games : AreGames s handles
  pub distinct : AreDistinct handles
  pub closed : IsClosed (games_at s handles)

-- more handles: behind those that were found at s, those of the positions of the walk
pub record AreFoundAfter {R : Type 0} (s t : State Meant R) (before after : List ℕ) (walk : List Game) : Type 0 where
  pub found : AreFound t after
  pub all : games_at t after ≡ extended (games_at s before) walk

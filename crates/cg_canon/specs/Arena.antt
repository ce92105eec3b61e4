-- The arena of a work: the games that it has met, each at its index.
use Rattle.std.specs.Prelude.{◌≡◌, ℕ, ◌++◌, List}
use Rattle.cg_form.specs.Game.{Game}
use Rattle.cg_arena.specs.Arena.{IsIndex, game_of}

-- the game stands at the index
pub record IsAt (gs : List Game) (index : ℕ) (g : Game) : Type 0 where
  pub within : IsIndex gs index
  pub is : game_of gs index ≡ g

-- the first games of the second list are those of the first
pub record Begins (gs hs : List Game) : Type 0 where
  pub more : List Game
  pub is : hs ≡ gs ++ more

-- What a cell stands for.
use Rattle.std.specs.Prelude.{ℕ, List}
use Rattle.cg_form.specs.Game.{Game}

pub data Meant : Type 0 where
  -- a number, or a canonical game that equals none
  form : Game → Meant
  -- a list of such games, which isn't empty
  list : List Game → Meant
  -- contents of 32 bits each, at least one
  contents : List ℕ → Meant
  -- two games, for their sum
  pair : Game → Game → Meant
  -- a board: the number of its game, the rows, the columns, and the contents of its cells
  board : ℕ → ℕ → ℕ → List ℕ → Meant

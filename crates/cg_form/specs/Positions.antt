-- The positions of a game: of a number itself alone, and of another game those of each Left option in order, those of each
-- Right option in order, then the game itself, each only where it comes first.
use Rattle.std.specs.Prelude.{List, [], ◌∷◌, ◌++◌}
use Rattle.cg_form.specs.Firsts as firsts
use Rattle.cg_form.specs.Game.{Game, Games, number, options, none, more}
use Rattle.cg_form.specs.Structure.{is_same}

-- the games without those that are the first
abbrev pub without : Game → List Game → List Game
without g hs = firsts.without is_same g hs

-- each game only where it comes first
abbrev pub once : List Game → List Game
once gs = firsts.once is_same gs

-- the positions, as often as play can come to them
abbrev mutual
  pub all_positions : Game → List Game
  all_positions (number x) = number x ∷ []
  all_positions (options ls rs) = positions_in ls ++ positions_in rs ++ (options ls rs ∷ [])

  pub positions_in : Games → List Game
  positions_in none = []
  positions_in (more g gs) = all_positions g ++ positions_in gs

unfoldable pub positions_of : Game → List Game
positions_of g = once (all_positions g)

-- no game is in the list twice
abbrev pub EachOnce : List Game → Type 0
EachOnce gs = firsts.EachOnce gs

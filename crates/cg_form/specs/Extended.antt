-- Lists of games that others are put behind, each only where it comes first, and lists that have the positions of each
-- of their games.
use Rattle.std.specs.Prelude.{List, [], ◌++◌}
use Rattle.cg_form.specs.Firsts as firsts
use Rattle.cg_form.specs.Game.{Among, Game, number, options}
use Rattle.cg_form.specs.Positions.{all_positions, positions_in}
use Rattle.cg_form.specs.Structure.{is_same}

-- the games of the second list behind the first list, each only where it comes first
abbrev pub extended : List Game → List Game → List Game
extended seen gs = firsts.extended is_same seen gs

-- the positions of the options of a game that isn't a number, which come before the game itself
abbrev pub positions_before : Game → List Game
positions_before (number x) = []
positions_before (options ls rs) = positions_in ls ++ positions_in rs

-- with each game its positions are in the list
abbrev pub IsClosed : List Game → Type 0
IsClosed seen = (g : Game) → Among g seen → (k : Game) → Among k (all_positions g) → Among k seen

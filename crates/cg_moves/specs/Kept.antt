-- Boards that were visited, one after another, each once.
use Rattle.std.specs.Prelude.{Bool, List}
use Rattle.cg_form.specs.Firsts as firsts
use Rattle.cg_moves.specs.Grid.{Grid, is_same}

-- the board is in the list
abbrev pub is_in : List Grid → Grid → Bool
is_in ps q = firsts.is_in is_same ps q

-- the list with the board behind it, unless it is there
abbrev pub one_more : List Grid → Grid → List Grid
one_more visited p = firsts.one_more is_same visited p

-- the boards of the second list behind the first list, each only where it comes first
abbrev pub kept : List Grid → List Grid → List Grid
kept visited ps = firsts.extended is_same visited ps

-- Games as plain trees: a number, or two lists of options.
-- Siegel, Combinatorial Game Theory (2013), II.1: short games and their options; II.3 for the options of a number.
use Rattle.std.specs.Prelude.{List, [], ◌∷◌, map}
use Rattle.cg_form.specs.Firsts as firsts
use Rattle.cg_dyadic.specs.Number.{Number, number_lefts, number_rights}

mutual
  pub data Game : Type 0 where
    number : Number → Game
    options : Games → Games → Game

  -- a list of games, declared beside `Game` because a type can't hold lists of itself
  pub data Games : Type 0 where
    none : Games
    more : Game → Games → Games

abbrev pub to_list : Games → List Game
to_list none = []
to_list (more g gs) = g ∷ to_list gs

abbrev pub of_list : List Game → Games
of_list [] = none
of_list (g ∷ gs) = more g (of_list gs)

-- the game {lefts | rights}
abbrev pub node : List Game → List Game → Game
node lefts rights = options (of_list lefts) (of_list rights)

-- the Left options; those of a number are the options of its canonical form
abbrev pub lefts : Game → List Game
lefts (number x) = map number (number_lefts x)
lefts (options ls rs) = to_list ls

-- the Right options
abbrev pub rights : Game → List Game
rights (number x) = map number (number_rights x)
rights (options ls rs) = to_list rs

-- the game isn't written as a number
abbrev pub IsNode : Game → Type 0
IsNode (number x) = ⊥
IsNode (options ls rs) = Unit {0}

-- g is one of the list
abbrev pub Among : Game → List Game → Type 0
Among g gs = firsts.In g gs

-- A number added to every number of a game, positions included.
-- Siegel, Combinatorial Game Theory (2013), II.3: number translation.
use Rattle.std.specs.Prelude.{◌+◌}
use Rattle.cg_dyadic.specs.Exact.{sum_num}
use Rattle.cg_dyadic.specs.Number.{Number, exp_of, ratio}
use Rattle.cg_form.specs.Game.{Game, Games, more, none, number, options}

-- the sum of two numbers
abbrev pub number_sum : Number → Number → Number
number_sum x y = ratio (sum_num x y) (exp_of x + exp_of y)

-- x is added to each number of the tree
abbrev mutual
  pub shifted : Number → Game → Game
  shifted x (number y) = number (number_sum x y)
  shifted x (options ls rs) = options (shifted_all x ls) (shifted_all x rs)

  pub shifted_all : Number → Games → Games
  shifted_all x none = none
  shifted_all x (more g gs) = more (shifted x g) (shifted_all x gs)

-- A size of games that is less at each option: the measure of the recursions.
use Rattle.std.specs.Prelude.{ℕ, suc, ◌+◌, List}
use Rattle.cg_dyadic.specs.Number.{weight}
use Rattle.cg_form.specs.Game.{Game, Games, more, none, number, of_list, options}

-- less at each option, those of a number included
abbrev mutual
  pub size : Game → ℕ
  size (number x) = weight x
  size (options ls rs) = suc (sizes ls + sizes rs)

  pub sizes : Games → ℕ
  sizes none = 0
  sizes (more g gs) = size g + sizes gs

abbrev pub list_size : List Game → ℕ
list_size gs = sizes (of_list gs)

-- The depth of a game: 0 for a number, and else 1 more than the greatest depth of an option, and 1 where there is none.
use Rattle.std.specs.Prelude.{ℕ, suc, max, List}
use Rattle.cg_form.specs.Game.{Game, Games, more, none, number, of_list, options}

abbrev mutual
  pub depth_of : Game → ℕ
  depth_of (number x) = 0
  depth_of (options ls rs) = suc (max (deepest_of ls) (deepest_of rs))

  pub deepest_of : Games → ℕ
  deepest_of none = 0
  deepest_of (more g gs) = max (depth_of g) (deepest_of gs)

-- the greatest depth in the list, and 0 where it is empty
abbrev pub deepest : List Game → ℕ
deepest gs = deepest_of (of_list gs)

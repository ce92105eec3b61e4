-- The height of a game: the exponent of a number, and else 1 more than the greatest height of an option, and 1 where
-- there is none. At a scale of at least the height, walls bend at whole units only.
use Rattle.std.specs.Prelude.{ℕ, suc, max}
use Rattle.cg_dyadic.specs.Number.{exp_of}
use Rattle.cg_form.specs.Game.{Game, Games, more, none, number, options}

abbrev mutual
  pub height : Game → ℕ
  height (number x) = exp_of x
  height (options ls rs) = suc (max (highest ls) (highest rs))

  pub highest : Games → ℕ
  highest none = 0
  highest (more g gs) = max (height g) (highest gs)

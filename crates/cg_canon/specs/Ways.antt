-- How a canonical form may be found.
use Rattle.std.specs.Prelude.{List}
use Rattle.cg_form.specs.Canonical.{Canonical}
use Rattle.cg_form.specs.Game.{Game, node}
use Rattle.cg_canon.specs.declared.value.Way.{Way}
use Rattle.cg_canon.specs.declared.value.Way.TheVariants.{AsGiven, Search}

-- the options of both sides are as the way needs them
abbrev pub IsWay : Way → List Game → List Game → Type 0
IsWay Search ls rs = Unit {0}
IsWay AsGiven ls rs = Canonical (node ls rs)

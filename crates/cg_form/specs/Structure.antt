-- The structural order of games: numbers first, by value; other games by their lists of Left options, then by their
-- lists of Right options. Lists are compared entry by entry, and a proper prefix comes first.
use Rattle.std.specs.Prelude.{◌≡◌, Bool, true, false, List, [], ◌∷◌}
use Rattle.std.specs.declared.cmp.Ordering.{Ordering}
use Rattle.std.specs.declared.cmp.Ordering.TheVariants.{Less, Equal, Greater}
use Rattle.cg_dyadic.specs.Number.{number_cmp}
use Rattle.cg_form.specs.Game.{Among, Game, Games, more, none, number, of_list, options}

-- the first order, or the second where the first is Equal
abbrev pub and_then : Ordering → Ordering → Ordering
and_then Less o = Less
and_then Equal o = o
and_then Greater o = Greater

abbrev mutual
  pub game_cmp : Game → Game → Ordering
  game_cmp (number x) (number y) = number_cmp x y
  game_cmp (number x) (options cs ds) = Less
  game_cmp (options ls rs) (number y) = Greater
  game_cmp (options ls rs) (options cs ds) = and_then (list_cmp ls cs) (list_cmp rs ds)

  pub list_cmp : Games → Games → Ordering
  list_cmp none none = Equal
  list_cmp none (more h hs) = Less
  list_cmp (more g gs) none = Greater
  list_cmp (more g gs) (more h hs) = and_then (game_cmp g h) (list_cmp gs hs)

-- lists of options, in the same way
abbrev pub order_of_lists : List Game → List Game → Ordering
order_of_lists gs hs = list_cmp (of_list gs) (of_list hs)

abbrev pub is_equal : Ordering → Bool
is_equal Less = false
is_equal Equal = true
is_equal Greater = false

-- whether the games are one tree; the law function `structure` says that it is just that
abbrev pub is_same : Game → Game → Bool
is_same g h = is_equal (game_cmp g h)

abbrev pub Before : Game → Game → Type 0
Before g h = game_cmp g h ≡ Less

-- each game of the list comes before all those after it: the list rises strictly
abbrev pub Rises : List Game → Type 0
Rises [] = Unit {0}
Rises (g ∷ gs) = ((h : Game) → Among h gs → Before g h) × Rises gs

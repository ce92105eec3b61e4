-- What counts as 0 where nothing else can: a sum of no terms, a use of a name, and what is no board and no heap.
use Rattle.std.specs.Prelude.{pos, List, [], ◌∷◌}
use Rattle.cg_dyadic.specs.Number.{whole}
use Rattle.cg_form.specs.Game.{Game, number}
use Rattle.cg_canon.specs.Items.{Item, made}

abbrev pub zero_form : Game
zero_form = number (whole (pos 0))

abbrev pub zero_items : List Item
zero_items = made zero_form 0 ∷ []

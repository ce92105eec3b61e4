-- The items that making a named game takes.
use Rattle.std.specs.Prelude.{ℕ, List, [], ◌∷◌, map, length, nat_lt, if◌then◌else◌, Option, Some, None}
use Rattle.cg_dyadic.specs.Number.{Number}
use Rattle.cg_form.specs.Game.{Game}
use Rattle.cg_form.specs.Positions.{positions_of}
use Rattle.cg_canon.specs.Items.{Item, made, outside, too_many}

abbrev pub plain_item : Game → Item
plain_item f = made f 0

-- the positions of the form, or the one item too_many where there are more than the limit
unfoldable pub form_items : ℕ → Game → List Item
form_items limit f = if nat_lt limit (length (positions_of f)) then too_many ∷ [] else map plain_item (positions_of f)

-- those of the form that is made of a number, or the one item of a number out of range where none is given
abbrev pub number_items : ℕ → (Number → Game) → Option Number → List Item
number_items limit form None = outside ∷ []
number_items limit form (Some x) = form_items limit (form x)

-- The items of a negative and of a multiple, in order.
use Rattle.std.specs.Prelude.{ℕ, zero, suc, List, [], ◌∷◌, ◌++◌, map, length, pos}
use Rattle.cg_dyadic.specs.Number.{whole}
use Rattle.cg_form.specs.Game.{Game, number}
use Rattle.cg_form.specs.Multiple.{multiple}
use Rattle.cg_form.specs.Sum.{negative}
use Rattle.cg_form.specs.Positions.{positions_of}
use Rattle.cg_nodes.specs.Can.{can}
use Rattle.cg_canon.specs.Items.{Item, made}
use Rattle.cg_canon.specs.SumItems.{sum_items, within_limit}

-- the canonical form of -f, at its own cost
abbrev pub minus_item : Game → Item
minus_item f = made (can (negative f)) 0

abbrev pub minus_items : List Game → List Item
minus_items fs = map minus_item fs

-- of a negative: the negatives of the positions
abbrev pub negative_items : ℕ → Game → List Item
negative_items limit g = let fs = positions_of g in within_limit limit (length fs) (minus_items fs)

-- the n steps of a multiple, from the one that makes 2.g on: each adds g to the form of the multiple so far
unfoldable pub step_items : ℕ → ℕ → Game → List Item
step_items limit zero g = []
step_items limit (suc n) g = step_items limit n g ++ sum_items limit (can (multiple (suc n) g)) g

-- of the multiple n.g: the number 0 for n = 0, nothing for n = 1, and else the n - 1 steps
abbrev pub multiple_items : ℕ → ℕ → Game → List Item
multiple_items limit zero g = made (number (whole (pos 0))) 0 ∷ []
multiple_items limit (suc n) g = step_items limit n g

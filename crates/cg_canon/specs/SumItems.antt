-- The items of a sum, in order.
use Rattle.std.specs.Prelude.{ℕ, ◌*◌, nat_lt, List, [], ◌∷◌, map, length, if◌then◌else◌}
use Rattle.std.specs.List.{flat_map}
use Rattle.cg_form.specs.Game.{Game}
use Rattle.cg_form.specs.Sum.{sum}
use Rattle.cg_form.specs.Positions.{positions_of}
use Rattle.cg_nodes.specs.Can.{can}
use Rattle.cg_canon.specs.Items.{Item, made, too_many}

-- the items, or the one item too_many where there are more than the limit; equal items count each time
abbrev pub within_limit : ℕ → ℕ → List Item → List Item
within_limit limit count items = if nat_lt limit count then too_many ∷ [] else items

-- the canonical form of f + k, which costs 1 more than the form alone
abbrev pub sum_item : Game → Game → Item
sum_item f k = made (can (sum f k)) 1

-- the sums of f and each of the list
abbrev pub row_items : List Game → Game → List Item
row_items ks f = map (λ k. sum_item f k) ks

-- the sums of each f of the first list, in the outer loop, and each k of the second, in the inner loop
abbrev pub pair_items : List Game → List Game → List Item
pair_items fs ks = flat_map (row_items ks) fs

-- of a sum: the sums of the positions of the two
abbrev pub sum_items : ℕ → Game → Game → List Item
sum_items limit g h =
    let fs = positions_of g in
    let ks = positions_of h in
    within_limit limit (length fs * length ks) (pair_items fs ks)

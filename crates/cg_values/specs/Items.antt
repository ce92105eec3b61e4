-- The items of a board, in order.
use Rattle.std.specs.Prelude.{ℕ, nat_lt, List, [], ◌∷◌, ◌++◌, map, length, if◌then◌else◌}
use Rattle.std.specs.List.{flat_map}
use Rattle.cg_form.specs.Game.{Game}
use Rattle.cg_form.specs.Sum.{nothing, sum}
use Rattle.cg_nodes.specs.Can.{can}
use Rattle.cg_canon.specs.Items.{Item, made, too_many}
use Rattle.cg_canon.specs.SumItems.{sum_items}
use Rattle.cg_moves.specs.Grid.{Grid}
use Rattle.cg_moves.specs.PieceReach.{piece_reach_of}
use Rattle.cg_moves.specs.Raw.{raw}
use Rattle.cg_moves.specs.Reach.{reach_of}
use Rattle.cg_moves.specs.Rules.{GameRules, cuts, followers, pieces}

-- what play can come to: pieces where the rules cut, and boards where they don't
abbrev pub parts_reach : GameRules → Grid → List Grid
parts_reach r p = if cuts r then piece_reach_of r p else reach_of r p

-- the canonical form of the board's tree, which costs 8 more than the form alone
abbrev pub value_item : GameRules → Grid → Item
value_item r p = made (can (raw r p)) 8

abbrev pub value_items : GameRules → List Grid → List Item
value_items r ps = map (value_item r) ps

-- where the rules don't cut: the values of all boards that play can come to, or the one item too_many where there are more than
-- the limit
abbrev pub whole_items : ℕ → GameRules → Grid → List Item
whole_items limit r p =
    let ps = reach_of r p in
    if nat_lt limit (length ps) then too_many ∷ [] else value_items r ps

-- ---- boards in pieces

-- the games added up: one after another to the first. Of no game it is 0
abbrev pub added : Game → List Game → Game
added g [] = g
added g (h ∷ hs) = added (sum g h) hs

abbrev pub sum_up : List Game → Game
sum_up [] = nothing
sum_up (g ∷ gs) = added g gs

-- of adding further games to a game: for each the items of one sum, of what was added up so far and the game
abbrev pub added_items : ℕ → Game → List Game → List Item
added_items limit g [] = []
added_items limit g (h ∷ hs) = sum_items limit (can g) (can h) ++ added_items limit (sum g h) hs

-- of adding up games: the number 0 where there is none, and nothing where there is one
abbrev pub sum_up_items : ℕ → List Game → List Item
sum_up_items limit [] = made (can nothing) 0 ∷ []
sum_up_items limit (g ∷ gs) = added_items limit g gs

-- of joining the pieces of a board
abbrev pub joining_items : ℕ → GameRules → Grid → List Item
joining_items limit r p = sum_up_items limit (map (raw r) (pieces r p))

-- of a piece: of joining the pieces of each board that a move leads to, Left's moves first, and its own value
abbrev pub piece_items : ℕ → GameRules → Grid → List Item
piece_items limit r q = flat_map (joining_items limit r) (followers r q) ++ (value_item r q ∷ [])

-- where the rules cut: of each piece that play can come to in pieces, and of joining those of the board; or the one item
-- too_many where there are more such pieces than the limit
abbrev pub cut_items : ℕ → GameRules → Grid → List Item
cut_items limit r p =
    let qs = piece_reach_of r p in
    if nat_lt limit (length qs) then too_many ∷ [] else flat_map (piece_items limit r) qs ++ joining_items limit r p

-- ---- of a board

unfoldable pub board_items : ℕ → GameRules → Grid → List Item
board_items limit r p = if cuts r then cut_items limit r p else whole_items limit r p

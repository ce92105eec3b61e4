-- No option is deeper than its game.
use Rattle.std.proofs.Common.{◌≡◌, ℕ, zero, suc, ◌<◌, ◌≤◌, arith, ap, inl, inr, List, [], ◌∷◌, true, false, get_or, length}
use Rattle.cg_dyadic.specs.Number.{number_lefts, number_rights}
use Rattle.cg_form.specs.Depth.{deepest, deepest_of, depth_of}
use Rattle.cg_form.specs.Game.{Among, Game, Games, lefts, more, none, number, options, rights, to_list}
use Rattle.cg_form.specs.Side.{Player, far}
use Rattle.cg_form.proofs.Among.{among-map}
use Rattle.cg_arena.specs.Arena.{game_of, games_of}

depth-list : (gs : Games) (a : Game) → Among a (to_list gs) → depth_of a ≤ deepest_of gs
depth-list none a h = absurd h
depth-list (more g gs) a (inl e) = let s : depth_of a ≡ depth_of g = ap depth_of e in omega arith
depth-list (more g gs) a (inr m) = let s = depth-list gs a m in omega arith

depth-lefts : (g a : Game) → Among a (lefts g) → depth_of a ≤ depth_of g
depth-lefts (number x) a h =
    let (y, e, m) = among-map (number_lefts x) number a h in
    let s : depth_of a ≡ 0 = ap depth_of e in
    omega arith
depth-lefts (options ls rs) a h = let s = depth-list ls a h in omega arith

depth-rights : (g a : Game) → Among a (rights g) → depth_of a ≤ depth_of g
depth-rights (number x) a h =
    let (y, e, m) = among-map (number_rights x) number a h in
    let s : depth_of a ≡ 0 = ap depth_of e in
    omega arith
depth-rights (options ls rs) a h = let s = depth-list rs a h in omega arith

-- an option of a number may be as deep, since all numbers are at depth 0
pub depth-far : (s : Player) (g a : Game) → Among a (far s g) → depth_of a ≤ depth_of g
depth-far true g a m = depth-rights g a m
depth-far false g a m = depth-lefts g a m

-- an item of a list of indexes
pub item_depth : (gs : List Game) (ps : List ℕ) (i k : ℕ) → i < length ps → k ≡ get_or ps i 0
    → depth_of (game_of gs k) ≤ deepest (games_of gs ps)
item_depth gs [] i k h e = absurd (omega arith)
item_depth gs (m ∷ ps) zero k h e = let n = ap (λ z. depth_of (game_of gs z)) e in omega arith
item_depth gs (m ∷ ps) (suc i) k h e = let n = item_depth gs ps i k (omega arith) e in omega arith

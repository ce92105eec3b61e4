-- Options are smaller than their game.
use Rattle.std.proofs.Common.{◌≡◌, ◌≤◌, ◌<◌, arith, inl, inr, ap}
use Rattle.cg_dyadic.specs.Number.{number_lefts, number_rights, weight}
use Rattle.cg_dyadic.proofs.Weight.{weight-lefts, weight-rights}
use Rattle.cg_form.specs.Game.{Among, Game, Games, lefts, more, none, number, options, rights, to_list}
use Rattle.cg_form.specs.Size.{size, sizes}
use Rattle.cg_form.proofs.Among.{among-map}

pub size-list : (gs : Games) (a : Game) → Among a (to_list gs) → size a ≤ sizes gs
size-list none a h = absurd h
size-list (more g gs) a (inl e) = let s : size a ≡ size g = ap size e in omega arith
size-list (more g gs) a (inr m) = let s = size-list gs a m in omega arith

pub size-lefts : (g a : Game) → Among a (lefts g) → size a < size g
size-lefts (number x) a h =
    let (y, e, m) = among-map (number_lefts x) number a h in
    let s : size a ≡ weight y = ap size e in
    let w = weight-lefts x y m in
    omega arith
size-lefts (options ls rs) a h = let s = size-list ls a h in omega arith

pub size-rights : (g a : Game) → Among a (rights g) → size a < size g
size-rights (number x) a h =
    let (y, e, m) = among-map (number_rights x) number a h in
    let s : size a ≡ weight y = ap size e in
    let w = weight-rights x y m in
    omega arith
size-rights (options ls rs) a h = let s = size-list rs a h in omega arith

use Rattle.std.proofs.Common.{◌∙◌, ◌++◌, ◌∷◌, ◌-◌, [], ap, arith, get_or, map, refl, set, sym}
use Rattle.cg_moves.proofs.Carried.{ok_is}
use Rattle.cg_moves.proofs.Numbers.{at-board}
use Rattle.cg_moves.proofs.Visits.{left, next-of, next-visited, ranks-inside, ranks-some, stand-of}
use Rattle.cg_moves.proofs.walk.leave.Goals as goal

pub numbers_of-requires : goal.numbers_of-requires
numbers_of-requires g c =
    (next-of g.walk c.args.linked.now c.requires.0 c.args.number c.requires.1.0 c.index-next.result.now c.index-next.ensures).inside

pub put_places-requires : goal.put_places-requires
put_places-requires g c =
    let s = c.args.linked.now in
    let v = c.args.visited.now in
    let (below, x) = c.requires.1.1 in
    let stand = stand-of g.walk s c.requires.0 c.args.number c.requires.1.0 c.index-next.result.now c.index-next.ensures in
    let all = next-visited g.walk s c.requires.0 v.boards.items v.next.items v.places.items v.ranks.items below c.args.number
    c.requires.1.0 x in
    record {
      inside = rw (c.deref.ensures.value, c.numbers_of.ensures)
          (ranks-inside s.found v.boards.items v.ranks.items x.ranked _ _ stand);
      visited = rw (c.deref.ensures.value, c.numbers_of.ensures)
          (ranks-some s.found v.boards.items v.ranks.items x.ranked _ _ stand all);
    }

pub returns : goal.returns
returns g c below x =
    let s = c.args.linked.now in
    let v = c.args.visited.now in
    let n = c.args.number in
    let same = ok_is c.in_ok-copy.field-0 c.part.result.now c.in_ok-copy.ensures
    ∙ sym (at-board s.found n c.part.result.now c.part.ensures) in
    left g.walk s c.requires.0 v.boards.items v.next.items v.places.items v.ranks.items below n c.requires.1.0 x
    c.index-next.result.now c.index-next.ensures c.push-2.new.items.items c.push.new.items.items c.put_places.new.places.items
    (set v.ranks.items n c.in_ok-rank.rank) c.numbers_of.result.now c.in_ok-first_place.first_place c.in_ok-rank.rank
    (c.in_ok-push-2.ensures ∙ ap (λ z. v.boards.items ++ (z ∷ [])) same) (omega arith) c.numbers_of.ensures
    (c.in_ok-put_places.ensures ∙ ap (λ z. v.places.items ++ map (λ m. get_or z m 0 - 1) c.numbers_of.result.now) c.deref.ensures.value)
    c.in_ok-push.ensures (omega arith) refl

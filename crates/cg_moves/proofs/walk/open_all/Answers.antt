use Rattle.std.proofs.Common.{◌∙◌, ◌++◌, ◌-◌, ap, get_or, map, sym}
use Rattle.cg_moves.specs.Walking.{walk_of}
use Rattle.cg_moves.proofs.Ends.{ends-inside, ends-some, ends-stand}
use Rattle.cg_moves.proofs.walk.open_all.Goals as goal

pub put_places-requires-clause-inside : goal.put_places-requires-clause-inside
put_places-requires-clause-inside g c =
    let r = g.R.Rules.game c.args.rules.now in
    let s = c.in_ok-linked.linked in
    let v = c.in_ok-visited.visited in
    let same = c.requires.1.0 ∙ ap (walk_of r c.args.edges) (sym c.deref.ensures.value) in
    let (more, e, stand) = c.in_ok-linked.ensures.numbers in
    let numbers = c.deref-4.ensures.value ∙ e ∙ ap (λ z. z ++ more) c.new-numbers.ensures.items in
    rw (numbers, c.deref-3.ensures.value) (ends-inside g.walk s (rw same c.in_ok-linked.ensures.can) v.boards.items v.next.items
    v.places.items v.ranks.items c.in_ok-visited.ensures more (rw (ap (λ z. z.starts) same) stand))

pub put_places-requires-clause-visited : goal.put_places-requires-clause-visited
put_places-requires-clause-visited g c =
    let r = g.R.Rules.game c.args.rules.now in
    let s = c.in_ok-linked.linked in
    let v = c.in_ok-visited.visited in
    let same = c.requires.1.0 ∙ ap (walk_of r c.args.edges) (sym c.deref.ensures.value) in
    let (more, e, stand) = c.in_ok-linked.ensures.numbers in
    let numbers = c.deref-4.ensures.value ∙ e ∙ ap (λ z. z ++ more) c.new-numbers.ensures.items in
    rw (numbers, c.deref-3.ensures.value) (ends-some g.walk s (rw same c.in_ok-linked.ensures.can) v.boards.items v.next.items
    v.places.items v.ranks.items c.in_ok-visited.ensures more (rw (ap (λ z. z.starts) same) stand))

pub returns-clause-starts : goal.returns-clause-starts
returns-clause-starts g c =
    let r = g.R.Rules.game c.args.rules.now in
    let s = c.in_ok-linked.linked in
    let v = c.in_ok-visited.visited in
    let same = c.requires.1.0 ∙ ap (walk_of r c.args.edges) (sym c.deref.ensures.value) in
    let (more, e, stand) = c.in_ok-linked.ensures.numbers in
    let numbers = c.deref-4.ensures.value ∙ e ∙ ap (λ z. z ++ more) c.new-numbers.ensures.items in
    let places = c.in_ok-put_places.ensures ∙ ap (λ z. z ++ map (λ n. get_or c.deref-3.result.now n 0 - 1) c.deref-4.result.now)
    c.new-places.ensures.items ∙ ap (λ z. map (λ n. get_or z n 0 - 1) c.deref-4.result.now) c.deref-3.ensures.value
    ∙ ap (map (λ n. get_or v.ranks.items n 0 - 1)) numbers in
    rw (c.of.ensures, places) (ends-stand g.walk s (rw same c.in_ok-linked.ensures.can) v.boards.items v.next.items
    v.places.items v.ranks.items c.in_ok-visited.ensures more (rw (ap (λ z. z.starts) same) stand))

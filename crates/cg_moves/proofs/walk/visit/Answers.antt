use Rattle.std.proofs.Common.{◌≡◌, ◌∙◌, ◌++◌, ◌∷◌, [], ap, arith, get_or, sym}
use Rattle.std.proofs.lemmas.List.{get_or_read}
use Rattle.cg_moves.specs.Visiting.{IsInside, visits_of}
use Rattle.cg_moves.proofs.Ends.{one-entered}
use Rattle.cg_moves.proofs.Numbers.{all-one}
use Rattle.cg_moves.proofs.Stepping.{gone-on, inside-more, last-inside, less-none, less-some, popped-visits, rest-inside}
use Rattle.cg_moves.proofs.Visits.{enter, skip}
use Rattle.cg_moves.proofs.walk.visit.Goals as goal

pub returns-then-index-ne0 : goal.returns-then-index-ne0
returns-then-index-ne0 g c below x =
    let s = c.args.linked.now in
    let v = c.args.visited.now in
    let low = c.requires.1.0 in
    let size = x.ranked.size in
    let rank : c.index.result.now ≡ get_or v.ranks.items c.args.start 0 =
    get_or_read v.ranks.items _ _ (omega (arith, low, size)) c.index.ensures 0 in
    let other = c.if-index-ne0.true in
    skip g.walk s c.requires.0 v.boards.items v.next.items v.places.items v.ranks.items below c.args.start low x
    (omega (arith, rank, other))

pub loop-last-init : goal.loop-last-init
loop-last-init g c =
    let s = c.args.linked.now in
    let v = c.args.visited.now in
    let o = c.opened.result in
    let low = c.requires.1.0 in
    record {
      inside = rw (c.in_ok-push.ensures ∙ ap (λ z. z ++ (o ∷ [])) c.clear.ensures.items)
          (all-one (IsInside s.found s.numbers.items) o c.opened.ensures.inside);
      visiting = λ below x.
          let size = x.ranked.size in
          let rank : c.index.result.now ≡ get_or v.ranks.items c.args.start 0 =
          get_or_read v.ranks.items _ _ (omega (arith, low, size)) c.index.ensures 0 in
          rw (one-entered s.found s.numbers.items c.push.new.items.items c.clear.new.self.items o c.clear.ensures.items
          c.in_ok-push.ensures ∙ c.opened.ensures.visits) (enter g.walk s c.requires.0 v.boards.items v.next.items v.places.items
          v.ranks.items below c.args.start low x (x.ranked.unseen c.args.start low (sym rank ∙ c.if-index-ne0.false)));
    }

pub opened-requires-in-Some-next_unvisited : goal.opened-requires-in-Some-next_unvisited
opened-requires-in-Some-next_unvisited g c =
    let s = c.args.linked.now in
    let v = c.loop-last.visited in
    let rest = c.pop.new.self.items in
    let last = c.in-Some.last in
    let all = c.loop-last.entered.items in
    let popped = c.in-Some.ensures.items in
    let (below, x) = c.requires.1.1 in (
      c.requires.0,
      (c.in-Some-next_unvisited.ensures.next (below ++ visits_of s.found s.numbers.items rest)
          (popped-visits g.walk s c.requires.0 v rest last all popped below (c.loop-last.invariant.visiting below x))).number,
    )

pub loop-last-smaller-in-Continue-branch-3 : goal.loop-last-smaller-in-Continue-branch-3
loop-last-smaller-in-Continue-branch-3 g c =
    let s = c.args.linked.now in
    let v = c.loop-last.visited in
    let rest = c.pop.new.self.items in
    let last = c.in-Some.last in
    let all = c.loop-last.entered.items in
    let popped = c.in-Some.ensures.items in
    let later = c.next_unvisited.new.top in
    let o = c.opened-in-Some-next_unvisited.result in
    let mid = c.push-in-Some-next_unvisited.new.items.items in
    let after = c.push-in-Some-next_unvisited-2.new.items.items in
    let n = c.in-Some-next_unvisited.number in
    let (below, x) = c.requires.1.1 in
    less-some g.walk s c.requires.0 v rest last all popped later o mid after c.in_ok-push-in-Some-next_unvisited.ensures
    c.in_ok-push-in-Some-next_unvisited-2.ensures n c.opened-in-Some-next_unvisited.ensures.visits below
    (c.in-Some-next_unvisited.ensures.next (below ++ visits_of s.found s.numbers.items rest)
    (popped-visits g.walk s c.requires.0 v rest last all popped below (c.loop-last.invariant.visiting below x)))

pub loop-last-preserved-in-Continue-branch-3 : goal.loop-last-preserved-in-Continue-branch-3
loop-last-preserved-in-Continue-branch-3 g c =
    let s = c.args.linked.now in
    let v = c.loop-last.visited in
    let rest = c.pop.new.self.items in
    let last = c.in-Some.last in
    let all = c.loop-last.entered.items in
    let popped = c.in-Some.ensures.items in
    let later = c.next_unvisited.new.top in
    let o = c.opened-in-Some-next_unvisited.result in
    let mid = c.push-in-Some-next_unvisited.new.items.items in
    let after = c.push-in-Some-next_unvisited-2.new.items.items in
    let n = c.in-Some-next_unvisited.number in
    record {
      inside = inside-more g.walk s c.requires.0 v rest last all popped later o mid after c.in_ok-push-in-Some-next_unvisited.ensures
          c.in_ok-push-in-Some-next_unvisited-2.ensures n c.opened-in-Some-next_unvisited.ensures.visits c.loop-last.invariant.inside
          c.in-Some-next_unvisited.ensures.inside c.opened-in-Some-next_unvisited.ensures.inside;
      visiting = λ below x. gone-on g.walk s c.requires.0 v rest last all popped later o mid after
          c.in_ok-push-in-Some-next_unvisited.ensures c.in_ok-push-in-Some-next_unvisited-2.ensures n
          c.opened-in-Some-next_unvisited.ensures.visits below
          (c.in-Some-next_unvisited.ensures.next (below ++ visits_of s.found s.numbers.items rest)
          (popped-visits g.walk s c.requires.0 v rest last all popped below (c.loop-last.invariant.visiting below x)));
    }

pub leave-requires : goal.leave-requires
leave-requires g c =
    let s = c.args.linked.now in
    let v = c.loop-last.visited in
    let rest = c.pop.new.self.items in
    let last = c.in-Some.last in
    let all = c.loop-last.entered.items in
    let popped = c.in-Some.ensures.items in
    let (below, x) = c.requires.1.1 in
    let inside = (last-inside g.walk s c.requires.0 v rest last all popped c.loop-last.invariant.inside).number in
    let same = c.in-None.ensures.number in (
      c.requires.0,
      (
        omega (arith, inside, same),
        (
          below ++ visits_of s.found s.numbers.items rest,
          rw same (c.in-None.ensures.none (below ++ visits_of s.found s.numbers.items rest)
              (popped-visits g.walk s c.requires.0 v rest last all popped below (c.loop-last.invariant.visiting below x))),
        ),
      ),
    )

pub loop-last-smaller : goal.loop-last-smaller
loop-last-smaller g c =
    let s = c.args.linked.now in
    let v = c.loop-last.visited in
    let rest = c.pop.new.self.items in
    let last = c.in-Some.last in
    let all = c.loop-last.entered.items in
    let popped = c.in-Some.ensures.items in
    less-none g.walk s c.requires.0 v rest last all popped

pub loop-last-preserved : goal.loop-last-preserved
loop-last-preserved g c =
    let s = c.args.linked.now in
    let v = c.loop-last.visited in
    let rest = c.pop.new.self.items in
    let last = c.in-Some.last in
    let all = c.loop-last.entered.items in
    let popped = c.in-Some.ensures.items in
    record {
      inside = rest-inside g.walk s c.requires.0 v rest last all popped c.loop-last.invariant.inside;
      visiting = λ below x. c.in_ok-leave-in-None.ensures (below ++ visits_of s.found s.numbers.items rest)
          (rw c.in-None.ensures.number (c.in-None.ensures.none (below ++ visits_of s.found s.numbers.items rest)
          (popped-visits g.walk s c.requires.0 v rest last all popped below (c.loop-last.invariant.visiting below x))));
    }

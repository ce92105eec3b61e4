use Rattle.std.proofs.Common.{◌≡◌, ◌∙◌, ◌+◌, ◌<◌, get_or, refl, sym, arith}
use Rattle.std.proofs.lemmas.List.{get_or_read}
use Rattle.cg_moves.specs.declared.walk.Open.{Open}
use Rattle.cg_moves.proofs.Stepping.{later-inside, number-inside, skipped, stepped, work-later}
use Rattle.cg_moves.proofs.walk.next_unvisited.Goals as goal

pub returns-then-index-eq0-clause-next : goal.returns-then-index-eq0-clause-next
returns-then-index-eq0-clause-next g c below x =
    let s = c.args.linked.now in
    let v = c.args.visited.now in
    let o = c.loop-top.top in
    let low = c.loop-top-test.true in
    let inside = c.loop-top.invariant.inside in
    let end = inside.end in
    let later : Open = record { number = o.number; next = o.next + 1; end = o.end } in
    let n = c.index.result.now in
    let is : n ≡ get_or s.numbers.items o.next 0 = get_or_read s.numbers.items _ _ (omega (arith, low, end)) c.index.ensures 0 in
    let many = number-inside g.walk s c.requires.0 v o later low inside refl refl refl n is in
    let size = c.requires.1.1 in
    let rank : c.index-in-loop-top.result.now ≡ get_or v.ranks.items n 0 =
    get_or_read v.ranks.items _ _ (omega (arith, many, size)) c.index-in-loop-top.ensures 0 in
    stepped g.walk s c.requires.0 v o later low inside refl refl refl n is c.args.top.now below (c.loop-top.invariant.visiting below x)
    (sym rank ∙ c.if-index-eq0.true) c.loop-top.invariant.less

pub loop-top-preserved : goal.loop-top-preserved
loop-top-preserved g c =
    let s = c.args.linked.now in
    let v = c.args.visited.now in
    let o = c.loop-top.top in
    let low = c.loop-top-test.true in
    let inside = c.loop-top.invariant.inside in
    let end = inside.end in
    let later : Open = record { number = o.number; next = o.next + 1; end = o.end } in
    let n = c.index.result.now in
    let is : n ≡ get_or s.numbers.items o.next 0 = get_or_read s.numbers.items _ _ (omega (arith, low, end)) c.index.ensures 0 in
    let many = number-inside g.walk s c.requires.0 v o later low inside refl refl refl n is in
    let size = c.requires.1.1 in
    let rank : c.index-in-loop-top.result.now ≡ get_or v.ranks.items n 0 =
    get_or_read v.ranks.items _ _ (omega (arith, many, size)) c.index-in-loop-top.ensures 0 in
    let other = c.if-index-eq0.false in
    let some : 0 < get_or v.ranks.items n 0 = omega (arith, rank, other) in
    record {
      inside = later-inside g.walk s c.requires.0 v o later low inside refl refl refl n is;
      number = c.loop-top.invariant.number;
      visiting = λ below x. skipped g.walk s c.requires.0 v o later low inside refl refl refl n is below
          (c.loop-top.invariant.visiting below x) some;
      less = let e = work-later g.walk s c.requires.0 v o later low inside refl refl refl n is in
          let less = c.loop-top.invariant.less in omega (arith, e, less);
    }

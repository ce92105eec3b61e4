use Rattle.std.proofs.Common.{◌+◌, ap, drop}
use Rattle.cg_moves.specs.Visiting.{boards_at}
use Rattle.cg_moves.specs.Walks.{entered}
use Rattle.cg_moves.proofs.Ends.{drop-past, start-split, started}
use Rattle.cg_moves.proofs.Links.{stand-below}
use Rattle.cg_moves.proofs.walk.visit_all.Goals as goal

pub loop-start-init : goal.loop-start-init
loop-start-init g c =
    started g.walk c.args.linked.now c.requires.0 c.in_ok-with_capacity.field-0.items c.in_ok-with_capacity-2.field-0.items
    c.in_ok-with_capacity-3.field-0.items c.in_ok-vec.field-0.items c.len-4.result c.args.starts.now c.in_ok-with_capacity.ensures.items
    c.in_ok-with_capacity-2.ensures.items c.in_ok-with_capacity-3.ensures.items (c.in_ok-vec.ensures.items_if_clones_equal (λ y e. e))
    c.len-4.ensures c.requires.1

pub visit-requires : goal.visit-requires
visit-requires g c =
    let found = c.args.linked.now.found in
    let starts = c.args.starts.now in
    let i = c.loop-start.start-index in (
      c.requires.0,
      (
        stand-below found starts g.walk.starts c.requires.1 i 0 c.loop-start-test.true,
        (entered (boards_at found (drop (i + 1) starts)), rw (← (start-split found starts i c.loop-start-test.true)) c.loop-start.invariant),
      ),
    )

pub loop-start-preserved : goal.loop-start-preserved
loop-start-preserved g c =
    let found = c.args.linked.now.found in
    let starts = c.args.starts.now in
    let i = c.loop-start.start-index in
    c.in_ok-visit.ensures (entered (boards_at found (drop (i + 1) starts)))
    (rw (← (start-split found starts i c.loop-start-test.true)) c.loop-start.invariant)

pub returns : goal.returns
returns g c =
    rw (← (ap (λ z. entered (boards_at c.args.linked.now.found z))
    (drop-past c.args.starts.now c.loop-start.start-index c.loop-start-test.false))) c.loop-start.invariant

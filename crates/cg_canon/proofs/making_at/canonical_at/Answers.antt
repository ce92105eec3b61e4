use Rattle.cg_form.specs.Game.{Game, node}
use Rattle.cg_nodes.specs.Can.{can}
use Rattle.cg_nodes.specs.CanLaw.{can-canonical, can-is}
use Rattle.cg_arena.specs.Arena.{games_of}
use Rattle.cg_canon.proofs.Charging.{new_written, outside_refused}
use Rattle.cg_canon.proofs.MakingAt.{entered_none}
use Rattle.cg_canon.proofs.making_at.canonical_at.Goals as goal

pub new_at-requires-clause-form : goal.new_at-requires-clause-form
new_at-requires-clause-form g c =
    let gs = c.args.interner.now.arena in
    let unreduced : Game = node (games_of gs c.args.lefts.now) (games_of gs c.args.rights.now) in
    new_written gs (can unreduced) c.in-Game.new (rw c.in-Game.is at (c.in_ok-canonicalized.ensures.canonicalized (can unreduced) (can-is unreduced)))

pub new_at-requires-clause-canonical : goal.new_at-requires-clause-canonical
new_at-requires-clause-canonical g c =
    let gs = c.args.interner.now.arena in
    let unreduced : Game = node (games_of gs c.args.lefts.now) (games_of gs c.args.rights.now) in
    rw (rw c.in-Game.is at (c.in_ok-canonicalized.ensures.canonicalized (can unreduced) (can-is unreduced))).is at (can-canonical unreduced)

pub returns-in-Number-clause-entered : goal.returns-in-Number-clause-entered
returns-in-Number-clause-entered g c =
    let W = g.S.CellStore.state in
    let gs = c.args.interner.now.arena in
    let unreduced : Game = node (games_of gs c.args.lefts.now) (games_of gs c.args.rights.now) in
    rw (rw c.in-Number.is at (c.in_ok-canonicalized.ensures.canonicalized (can unreduced) (can-is unreduced))) c.number_at.ensures.entered

pub returns-in-Outside-clause-entered : goal.returns-in-Outside-clause-entered
returns-in-Outside-clause-entered g c =
    let gs = c.args.interner.now.arena in
    let unreduced : Game = node (games_of gs c.args.lefts.now) (games_of gs c.args.rights.now) in
    let out = rw c.in-Outside.is at (c.in_ok-canonicalized.ensures.canonicalized (can unreduced) (can-is unreduced)) in
    entered_none (g.S.CellStore.state c.args.store.now) c.args.meter.now gs (can unreduced) c.args.extra _ c.requires.meter.within
    (outside_refused c.args.meter.now.share c.args.meter.now.spent c.args.extra (can unreduced) out.x out.is out.outside)

pub returns-in-Game-clause-entered : goal.returns-in-Game-clause-entered
returns-in-Game-clause-entered g c =
    let W = g.S.CellStore.state in
    let gs = c.args.interner.now.arena in
    let unreduced : Game = node (games_of gs c.args.lefts.now) (games_of gs c.args.rights.now) in
    rw (rw c.in-Game.is at (c.in_ok-canonicalized.ensures.canonicalized (can unreduced) (can-is unreduced))).is c.new_at.ensures.entered

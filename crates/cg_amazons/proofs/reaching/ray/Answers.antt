use Rattle.cg_amazons.proofs.RayLines.{ray_goes, ray_starts, ray_stops}
use Rattle.cg_amazons.proofs.reaching.ray.Goals as goal

pub loop-turn-init : goal.loop-turn-init
loop-turn-init c =
    ray_starts c.args.shape.rows c.args.shape.columns c.args.free c.args.way c.args.cell c.with_bit-at.result c.requires.cell
    c.with_bit-at.ensures

pub loop-turn-preserved : goal.loop-turn-preserved
loop-turn-preserved c =
    let state = c.loop-turn.invariant in
    ray_goes c.args.shape.rows c.args.shape.columns c.args.free c.args.way c.args.cell c.loop-turn._turn c.loop-turn.at
    c.loop-turn.found c.step-next.result c.loop-turn-test.true state (c.step-next.ensures state.here state.below state.is)

pub returns-then-at-eq0 : goal.returns-then-at-eq0
returns-then-at-eq0 c =
    let state = c.loop-turn.invariant in
    ray_stops c.args.shape.rows c.args.shape.columns c.args.free c.args.way c.args.cell c.loop-turn._turn c.loop-turn.at
    c.loop-turn.found c.step-next.result c.loop-turn-test.true state (c.step-next.ensures state.here state.below state.is)
    c.if-at-eq0.true

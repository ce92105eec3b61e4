use Rattle.std.specs.Prelude.{slice_index}
use Rattle.cg_strip.proofs.Standing.{some_symbol, standing_more}
use Rattle.cg_strip.proofs.placing.standing.Goals as goal

pub loop-offset-preserved : goal.loop-offset-preserved
loop-offset-preserved c =
    let p = c.args.board.now in
    let k = c.loop-offset.offset in
    let inside = c.loop-offset-test.true in
    let some = some_symbol p.symbols (slice_index c.args.pattern.now k) c.size-size.ensures.grid.symbols (c.requires k inside) in
    standing_more p.cells c.args.pattern.now c.loop-offset.places c.places-next.result c.moved_back-moved.result k inside some
    c.loop-offset.invariant c.places-next.ensures.places c.moved_back-moved.ensures

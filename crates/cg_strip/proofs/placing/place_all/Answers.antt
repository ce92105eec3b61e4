use Rattle.std.proofs.Common.{arith}
use Rattle.cg_moves.specs.Grid.{with_cells}
use Rattle.cg_strip.proofs.Standing.{placed_fits, placed_next}
use Rattle.cg_strip.proofs.placing.place_all.Goals as goal

pub place-requires-clause-fits : goal.place-requires-clause-fits
place-requires-clause-fits c =
    let t = c.loop-cell-test.true in
    let e = c.size-cell-end.ensures.value in
    placed_fits c.args.board.now.cells c.args.pattern.now c.args.replacement.now c.standing-places.result c.loop-cell.cell
    (omega (arith, t, e)) c.requires.even c.standing-places.ensures

pub loop-cell-preserved : goal.loop-cell-preserved
loop-cell-preserved c =
    let t = c.loop-cell-test.true in
    let e = c.size-cell-end.ensures.value in
    placed_next (with_cells c.args.board.now) c.args.board.now.cells c.args.pattern.now c.args.replacement.now
    c.standing-places.result c.loop-cell.cell c.args.boards.now.items c.loop-cell.boards.items c.place.new.boards.items
    (omega (arith, t, e)) c.requires.even c.standing-places.ensures c.loop-cell.invariant c.in_ok-place.ensures

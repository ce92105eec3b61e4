use Rattle.cg_moves.proofs.PlaneLemmas.{planes_more, planes_none}
use Rattle.cg_moves.proofs.planes.planes_of.Goals as goal

pub loop-cell-init : goal.loop-cell-init
loop-cell-init c = planes_none c.args.symbols.now

pub loop-cell-preserved : goal.loop-cell-preserved
loop-cell-preserved c =
    planes_more c.args.symbols.now c.args.cells.now _ _ c.loop-cell.cell 0 c.loop-cell-test.true c.loop-cell.invariant
    c.with_symbol-planes.ensures

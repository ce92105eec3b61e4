use Rattle.std.proofs.Common.{arith}
use Rattle.cg_moves.proofs.TextLemmas.{ragged_here}
use Rattle.cg_moves.proofs.grid.first_ragged.Goals as goal

pub loop-start-preserved-then-row-columns : goal.loop-start-preserved-then-row-columns
loop-start-preserved-then-row-columns c =
    ragged_here c.args.columns c.args.text.now c.loop-start.start c.loop-start.row c.loop-start.later
    c.loop-start-test.true c.loop-start.invariant c.if-text-start-eq-BAR.true c.if-row-columns.true

pub overflow_add-row : goal.overflow_add-row
overflow_add-row c =
    let h = c.loop-start.invariant.inside in
    let l = c.type_inv.text in
    omega arith

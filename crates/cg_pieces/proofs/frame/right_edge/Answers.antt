use Rattle.std.proofs.Common.{◌-◌, ◌≤◌, ap, arith}
use Rattle.cg_pieces.proofs.Columns.{edge-is, from-right, right-later, right-less}
use Rattle.cg_pieces.proofs.frame.right_edge.Goals as goal

pub loop-column-preserved : goal.loop-column-preserved
loop-column-preserved c =
    right-less c.args.board.now c.columns-right.ensures.grid c.args.set c.requires.set c.loop-column.right c.loop-column.column
    c.loop-column.invariant c.loop-column-test.true

pub returns : goal.returns
returns c =
    edge-is c.args.board.now c.columns-right.ensures.grid c.args.set c.requires.set (λ edge column. column ≤ edge)
    c.loop-column.right c.loop-column.column c.loop-column.invariant c.loop-column-test.false
    (omega (arith, c.ranges.set.fits))

pub loop-column-init : goal.loop-column-init
loop-column-init c =
    from-right c.args.board.now c.columns-right.ensures.grid c.args.set c.requires.set c.args.first_column _ c.requires.first
    (ap (λ w. w - 1) c.columns-right.ensures.value)

pub overflow_sub-right-in-loop-column : goal.overflow_sub-right-in-loop-column
overflow_sub-right-in-loop-column c =
    right-later c.args.board.now c.columns-right.ensures.grid c.args.set c.requires.set c.loop-column.right
    c.loop-column.column c.loop-column.invariant c.loop-column-test.true

pub loop-column-smaller : goal.loop-column-smaller
loop-column-smaller c =
    let later = right-later c.args.board.now c.columns-right.ensures.grid c.args.set c.requires.set c.loop-column.right
    c.loop-column.column c.loop-column.invariant c.loop-column-test.true in
    omega (arith, later)

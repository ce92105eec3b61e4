use Rattle.std.proofs.Common.{◌≤◌, arith}
use Rattle.cg_pieces.proofs.Columns.{edge-is, from-left, left-more}
use Rattle.cg_pieces.proofs.Frames.{few-columns}
use Rattle.cg_pieces.proofs.frame.left_edge.Goals as goal

pub loop-column-init : goal.loop-column-init
loop-column-init c =
    from-left c.args.board.now c.size-size.ensures.grid c.args.set c.requires.set c.args.first_column c.requires.first

pub loop-column-preserved : goal.loop-column-preserved
loop-column-preserved c =
    left-more c.args.board.now c.size-size.ensures.grid c.args.set c.requires.set c.loop-column.left c.loop-column.column
    c.loop-column.invariant c.loop-column-test.true

pub returns : goal.returns
returns c =
    edge-is c.args.board.now c.size-size.ensures.grid c.args.set c.requires.set (λ edge column. edge ≤ column)
    c.loop-column.left c.loop-column.column c.loop-column.invariant c.loop-column-test.false
    (omega (arith, c.ranges.set.fits))

pub overflow_add-left : goal.overflow_add-left
overflow_add-left c =
    let inside = c.loop-column.invariant.inside in
    let few = few-columns c.args.board.now c.size-size.ensures.grid in
    omega (arith, inside, few)

pub loop-column-smaller : goal.loop-column-smaller
loop-column-smaller c =
    let next = (left-more c.args.board.now c.size-size.ensures.grid c.args.set c.requires.set c.loop-column.left
    c.loop-column.column c.loop-column.invariant c.loop-column-test.true).inside in
    omega (arith, next)

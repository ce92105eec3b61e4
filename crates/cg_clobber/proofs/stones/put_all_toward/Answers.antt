use Rattle.std.proofs.Common.{arith}
use Rattle.cg_moves.proofs.SetBits.{cleared-less, listed-all}
use Rattle.cg_pieces.proofs.LastBits.{last-one, last-past}
use Rattle.cg_clobber.proofs.Going.{toward_begun, toward_more}
use Rattle.cg_clobber.proofs.stones.put_all_toward.Goals as goal

pub loop-left-init : goal.loop-left-init
loop-left-init c = toward_begun c.args.player c.args.board.now c.args.words.now c.requires.words c.args.boards.now.items

pub with_bit-left-requires-clause-place : goal.with_bit-left-requires-clause-place
with_bit-left-requires-clause-place c = omega arith

pub put_toward-requires-clause-cell : goal.put_toward-requires-clause-cell
put_toward-requires-clause-cell c =
    let here = last-one c.loop-left.left (omega (arith, c.loop-left-test.true)) c.loop-left.invariant.fits in
    c.loop-left.invariant.within _ here

pub loop-left-smaller : goal.loop-left-smaller
loop-left-smaller c =
    let here = last-one c.loop-left.left (omega (arith, c.loop-left-test.true)) c.loop-left.invariant.fits in
    cleared-less c.loop-left.left _ _ c.with_bit-left.ensures here

pub loop-left-preserved : goal.loop-left-preserved
loop-left-preserved c =
    let here = last-one c.loop-left.left (omega (arith, c.loop-left-test.true)) c.loop-left.invariant.fits in
    let past = last-past c.loop-left.left (omega (arith, c.loop-left-test.true)) c.loop-left.invariant.fits in
    toward_more c.args.player c.args.board.now c.loop-left.left c.with_bit-left.result _ c.args.boards.now.items
    c.loop-left.boards.items c.put_toward.new.boards.items here c.with_bit-left.ensures past (omega (arith, c.with_bit-left.type_inv))
    c.loop-left.invariant
    c.in_ok-put_toward.ensures

pub returns : goal.returns
returns c = listed-all _ _ _ _ _ c.loop-left.left _ c.loop-left.boards.items c.loop-left-test.false c.loop-left.invariant

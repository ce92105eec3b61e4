use Rattle.std.proofs.Common.{arith, refl, w64}
use Rattle.std.proofs.lemmas.Nat.Bits.{bit_at-trailing_zeros}
use Rattle.cg_moves.proofs.SetBits.{cleared-less, listed-all, listed-more}
use Rattle.cg_clobber.proofs.Going.{paired_begun}
use Rattle.cg_clobber.proofs.Placing.{listed_then}
use Rattle.cg_clobber.proofs.stones.put_all_paired.Goals as goal

pub loop-left-init : goal.loop-left-init
loop-left-init c = paired_begun c.args.player c.args.board.now c.args.words.now c.requires.words c.args.boards.now.items

pub with_bit-left-requires-clause-place : goal.with_bit-left-requires-clause-place
with_bit-left-requires-clause-place c =
    (bit_at-trailing_zeros w64 c.loop-left.left (omega (arith, c.loop-left-test.true)) c.loop-left.invariant.fits).0

pub put_onward-requires-clause-cell : goal.put_onward-requires-clause-cell
put_onward-requires-clause-cell c =
    let first = bit_at-trailing_zeros w64 c.loop-left.left (omega (arith, c.loop-left-test.true)) c.loop-left.invariant.fits in
    c.loop-left.invariant.within _ first.1

pub put_toward-requires-clause-cell : goal.put_toward-requires-clause-cell
put_toward-requires-clause-cell c =
    let first = bit_at-trailing_zeros w64 c.loop-left.left (omega (arith, c.loop-left-test.true)) c.loop-left.invariant.fits in
    c.loop-left.invariant.within _ first.1

pub loop-left-smaller : goal.loop-left-smaller
loop-left-smaller c =
    let first = bit_at-trailing_zeros w64 c.loop-left.left (omega (arith, c.loop-left-test.true)) c.loop-left.invariant.fits in
    cleared-less c.loop-left.left _ _ c.with_bit-left.ensures first.1

pub loop-left-preserved : goal.loop-left-preserved
loop-left-preserved c =
    let first = bit_at-trailing_zeros w64 c.loop-left.left (omega (arith, c.loop-left-test.true)) c.loop-left.invariant.fits in
    listed-more _ _ _ _ _ c.loop-left.left c.with_bit-left.result _ _ _ c.loop-left.boards.items c.put_toward.new.boards.items
    (c.loop-left.invariant.within _ first.1) refl first.1 c.with_bit-left.ensures first.2 (λ j other l. other)
    (omega (arith, c.with_bit-left.type_inv)) c.loop-left.invariant (listed_then _ c.loop-left.boards.items c.put_onward.new.boards.items
    c.put_toward.new.boards.items
    _ _ c.in_ok-put_onward.ensures c.in_ok-put_toward.ensures)

pub returns : goal.returns
returns c = listed-all _ _ _ _ _ c.loop-left.left _ c.loop-left.boards.items c.loop-left-test.false c.loop-left.invariant

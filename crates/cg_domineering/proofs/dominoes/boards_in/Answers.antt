use Rattle.std.proofs.Common.{arith, refl, w64}
use Rattle.std.proofs.lemmas.Nat.Bits.{bit_at-trailing_zeros}
use Rattle.cg_moves.proofs.SetBits.{cleared-less, listed-more}
use Rattle.cg_domineering.proofs.Placing.{all_listed, dominoes_begun, first-inside, one_listed, wide}
use Rattle.cg_domineering.proofs.dominoes.boards_in.Goals as goal

pub loop-left-init : goal.loop-left-init
loop-left-init c =
    dominoes_begun c.args.player c.args.board.now c.spots-spots.result c.clear.new.self.items c.clear.ensures.items
    (omega (arith, c.spots-spots.type_inv)) c.spots-spots.ensures

pub with_bit-left-requires-clause-place : goal.with_bit-left-requires-clause-place
with_bit-left-requires-clause-place c =
    (bit_at-trailing_zeros w64 c.loop-left.left (omega (arith, c.loop-left-test.true)) c.loop-left.invariant.fits).0

pub placed-requires-clause-fits : goal.placed-requires-clause-fits
placed-requires-clause-fits c =
    let first = bit_at-trailing_zeros w64 c.loop-left.left (omega (arith, c.loop-left-test.true)) c.loop-left.invariant.fits in
    c.loop-left.invariant.within _ first.1

pub loop-left-smaller : goal.loop-left-smaller
loop-left-smaller c =
    let first = bit_at-trailing_zeros w64 c.loop-left.left (omega (arith, c.loop-left-test.true)) c.loop-left.invariant.fits in
    cleared-less c.loop-left.left _ _ c.with_bit-left.ensures first.1

pub loop-left-preserved : goal.loop-left-preserved
loop-left-preserved c =
    let first = bit_at-trailing_zeros w64 c.loop-left.left (omega (arith, c.loop-left-test.true)) c.loop-left.invariant.fits in
    let fit = c.loop-left.invariant.within _ first.1 in
    listed-more _ _ _ _ _ c.loop-left.left c.with_bit-left.result _ _ _ c.loop-left.boards.items c.push.new.items.items
    (first-inside c.args.player c.args.board.now _ fit) refl first.1 c.with_bit-left.ensures first.2 (λ j other l. other)
    (omega (arith, c.with_bit-left.type_inv)) c.loop-left.invariant (one_listed c.args.player c.args.board.now c.placed.result _ c.loop-left.boards.items
    c.push.new.items.items fit c.placed.ensures c.in_ok-push.ensures)

pub returns : goal.returns
returns c =
    all_listed c.args.player c.args.board.now c.loop-left.left c.loop-left.boards.items (wide c.args.board.now c.requires)
    c.loop-left-test.false c.loop-left.invariant

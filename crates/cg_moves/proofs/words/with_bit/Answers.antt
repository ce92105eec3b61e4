use Rattle.std.proofs.Common.{arith}
use Rattle.cg_moves.proofs.WordBits.{bit_cleared, bit_raised}
use Rattle.cg_moves.proofs.words.with_bit.Goals as goal

pub returns-then-bit-eq0 : goal.returns-then-bit-eq0
returns-then-bit-eq0 c =
    bit_cleared c.args.word c.args.place c.args.bit (omega (arith, c.ranges.word.fits)) c.requires.place c.if-bit-eq0.true

pub returns-else-bit-eq0 : goal.returns-else-bit-eq0
returns-else-bit-eq0 c =
    let a = c.if-bit-eq0.false in
    let b = c.requires.bit in
    bit_raised c.args.word c.args.place c.args.bit c.requires.place (omega arith)

use Rattle.std.proofs.Common.{arith}
use Rattle.cg_moves.proofs.WordBits.{matching_not}
use Rattle.cg_moves.proofs.words.matching_bits.Goals as goal

pub returns-then-bit-eq0 : goal.returns-then-bit-eq0
returns-then-bit-eq0 c i =
    matching_not c.args.word c.args.bit i (omega (arith, c.ranges.word.fits)) c.if-bit-eq0.true

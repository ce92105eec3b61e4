use Rattle.std.proofs.Common.{◌+◌, ◌∙◌, sym, arith}
use Rattle.std.proofs.lemmas.Nat.Bits.{bit_at-zero, bit_at_above}
use Rattle.cg_moves.proofs.WordBits.{shifted_back}
use Rattle.cg_moves.proofs.words.moved_back.Goals as goal

pub returns-then-by-lt64 : goal.returns-then-by-lt64
returns-then-by-lt64 c i = shifted_back c.args.word c.args.by i

pub returns-else-by-lt64 : goal.returns-else-by-lt64
returns-else-by-lt64 c i =
    let f = c.if-by-lt64.false in
    bit_at-zero i ∙ sym (bit_at_above c.args.word 64 (i + c.args.by) (omega (arith, c.ranges.word.fits)) (omega arith))

use Rattle.std.proofs.Common.{arith}
use Rattle.cg_pieces.proofs.CropWords.{shown-off, shown-on}
use Rattle.cg_pieces.proofs.frame.shown.Goals as goal

pub returns-then-bit-eq0 : goal.returns-then-bit-eq0
returns-then-bit-eq0 c = λ k few. shown-off c.args.word c.args.set c.args.bit k c.if-bit-eq0.true

pub returns-else-bit-eq0 : goal.returns-else-bit-eq0
returns-else-bit-eq0 c = λ k few.
    let some = c.if-bit-eq0.false in
    let one = c.requires in
    shown-on c.args.word c.args.set c.args.bit k (omega (arith, some, one)) (omega (arith, c.ranges.set.fits)) few

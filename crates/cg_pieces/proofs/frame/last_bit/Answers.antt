use Rattle.std.proofs.Common.{arith}
use Rattle.cg_pieces.proofs.LastBits.{last-last, last-one}
use Rattle.cg_pieces.proofs.frame.last_bit.Goals as goal

pub returns-clause-one : goal.returns-clause-one
returns-clause-one c = last-one c.args.word c.requires (omega (arith, c.ranges.word.fits))

pub returns-clause-last : goal.returns-clause-last
returns-clause-last c = last-last c.args.word c.requires (omega (arith, c.ranges.word.fits))

use Rattle.std.proofs.Common.{length}
use Rattle.cg_reading.proofs.DigitLemmas.{AreRead}
use Rattle.cg_reading.proofs.tokens.few_digits.Given as goal

abbrev pub invariant-loop-digit : goal.invariant-loop-digit
invariant-loop-digit l = AreRead l.fn.most l.room l.value l.fn.bytes l.rest

abbrev pub decreases-loop-digit : goal.decreases-loop-digit
decreases-loop-digit l = length l.rest

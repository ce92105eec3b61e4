use Rattle.std.proofs.Common.{length}
use Rattle.cg_octal.proofs.reading.+fit_length.Given as goal

abbrev pub decreases-fit_length : goal.decreases-fit_length
decreases-fit_length l = length l.bytes.now

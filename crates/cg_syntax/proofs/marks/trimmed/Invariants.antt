use Rattle.std.proofs.Common.{◌≡◌, length, reverse}
use Rattle.cg_reading.specs.Readers.{skipped}
use Rattle.cg_reading.specs.Tokens.{blank}
use Rattle.cg_syntax.specs.Session.{trimmed}
use Rattle.cg_syntax.proofs.marks.trimmed.Given as goal

abbrev pub invariant-loop-last : goal.invariant-loop-last
invariant-loop-last l = reverse (skipped blank (reverse l.rest)) ≡ trimmed l.fn.line

abbrev pub decreases-loop-last : goal.decreases-loop-last
decreases-loop-last l = length l.rest

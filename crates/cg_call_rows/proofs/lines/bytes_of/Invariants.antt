use Rattle.std.proofs.Common.{length}
use Rattle.cg_call_rows.proofs.lines.bytes_of.Given as goal

abbrev pub decreases-loop-first : goal.decreases-loop-first
decreases-loop-first l = length l.rest

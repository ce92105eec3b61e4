use Rattle.std.proofs.Common.{length}
use Rattle.cg_reader.proofs.Cutting.{Skipped}
use Rattle.cg_reader.proofs.split.first_run.Given as goal

abbrev pub invariant-loop-row : goal.invariant-loop-row
invariant-loop-row l = Skipped l.bars l.fn.rows l.rest l.index

abbrev pub decreases-loop-row : goal.decreases-loop-row
decreases-loop-row l = length l.rest

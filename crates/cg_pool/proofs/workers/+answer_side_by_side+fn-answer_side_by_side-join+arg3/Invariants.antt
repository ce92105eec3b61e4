use Rattle.std.proofs.Common.{◌+◌, ◌*◌}
use Rattle.cg_pool.proofs.workers.+answer_side_by_side+fn-answer_side_by_side-join+arg3.Given as goal

abbrev pub decreases-join+arg3 : goal.decreases-join+arg3
decreases-join+arg3 g l = 2 * l.rest + 1

abbrev pub decreases-answer_side_by_side : goal.decreases-answer_side_by_side
decreases-answer_side_by_side g l = 2 * l.workers

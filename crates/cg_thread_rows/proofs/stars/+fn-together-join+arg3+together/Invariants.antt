use Rattle.std.proofs.Common.{◌+◌, ◌*◌}
use Rattle.cg_thread_rows.proofs.stars.+fn-together-join+arg3+together.Given as goal

abbrev pub decreases-join+arg3 : goal.decreases-join+arg3
decreases-join+arg3 g l = 2 * l.rest + 1

abbrev pub decreases-together : goal.decreases-together
decreases-together g l = 2 * l.threads

use Rattle.std.proofs.Common.{◌-◌, length}
use Rattle.cg_cells.specs.Table.{passes_of}
use Rattle.cg_shared.specs.Passes.{pass_state}
use Rattle.cg_pool.proofs.Bringing.{IsUnderWay}
use Rattle.cg_pool.proofs.workers.answer_lines.Given as goal

abbrev pub invariant-loop-ticket : goal.invariant-loop-ticket
invariant-loop-ticket g l = IsUnderWay (g.J.CachingJob.good l.job) l.order l.cells (passes_of l.fn.pass.sees) l.answers.items l.pass
    × g.J.CachingJob.holds l.cache (pass_state l.pass).known

abbrev pub decreases-loop-ticket : goal.decreases-loop-ticket
decreases-loop-ticket g l = l.cells.sizes.lines - length l.pass.sees.tickets

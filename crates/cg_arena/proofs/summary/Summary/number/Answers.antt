use Rattle.cg_arena.proofs.Profiling.{number_summary}
use Rattle.cg_arena.proofs.summary.Summary.number.Goals as goal

pub returns-clause-summary : goal.returns-clause-summary
returns-clause-summary c = number_summary c.args.x c.closed.result c.closed-2.result c.cost_of_number.result c.closed.ensures.at c.closed.ensures.closed
    c.closed-2.ensures.at c.closed-2.ensures.closed c.cost_of_number.ensures c.closed.ensures.in_range

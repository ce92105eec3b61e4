use Rattle.std.proofs.Common.{drop}
use Rattle.cg_moves.specs.Visiting.{IsVisiting, boards_at}
use Rattle.cg_moves.specs.Walks.{entered}
use Rattle.cg_moves.proofs.walk.visit_all.Given as goal

abbrev pub ghost-visit : goal.ghost-visit
ghost-visit g a = g.walk

abbrev pub invariant-loop-start : goal.invariant-loop-start
invariant-loop-start g l =
    IsVisiting g.walk l.linked l.visited (entered (boards_at l.linked.found (drop l.start-index l.starts)))

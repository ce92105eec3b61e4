use Rattle.std.proofs.Common.{◌≡◌, ◌++◌, ◌-◌, ◌≤◌, List}
use Rattle.cg_moves.specs.Visiting.{IsInside, IsVisiting, visits_by, work_left}
use Rattle.cg_moves.specs.Walking.{play}
use Rattle.cg_moves.specs.Walks.{Visit}
use Rattle.cg_moves.proofs.walk.next_unvisited.Given as goal

abbrev pub invariant-loop-top : goal.invariant-loop-top
invariant-loop-top g l = record {
  inside : IsInside l.linked.found l.linked.numbers.items l.top;
  number : l.top.number ≡ l.fn.top.number;
  visiting : (below : List Visit) → IsVisiting g.walk l.linked l.visited (below ++ visits_by l.linked.found l.linked.numbers.items l.fn.top)
      → IsVisiting g.walk l.linked l.visited (below ++ visits_by l.linked.found l.linked.numbers.items l.top);
  less : work_left (play g.walk) (visits_by l.linked.found l.linked.numbers.items l.top)
      ≤ work_left (play g.walk) (visits_by l.linked.found l.linked.numbers.items l.fn.top);
}

abbrev pub decreases-loop-top : goal.decreases-loop-top
decreases-loop-top g l = l.top.end - l.top.next

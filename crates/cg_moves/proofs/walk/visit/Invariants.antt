use Rattle.std.proofs.Common.{◌∷◌, [], ◌++◌, List}
use Rattle.std.specs.Prelude.{All}
use Rattle.cg_moves.specs.Visiting.{IsInside, IsVisiting, board_at, visits_of, work_left}
use Rattle.cg_moves.specs.Walking.{play}
use Rattle.cg_moves.specs.Walks.{Enters, Visit}
use Rattle.cg_moves.proofs.walk.visit.Given as goal

abbrev pub ghost-opened : goal.ghost-opened
ghost-opened g a = g.walk

abbrev pub ghost-next_unvisited : goal.ghost-next_unvisited
ghost-next_unvisited g a = g.walk

abbrev pub ghost-leave : goal.ghost-leave
ghost-leave g a = g.walk

abbrev pub invariant-loop-last : goal.invariant-loop-last
invariant-loop-last g l = record {
  inside : All (IsInside l.linked.found l.linked.numbers.items) l.entered.items;
  visiting : (below : List Visit) → IsVisiting g.walk l.linked l.fn.visited (below ++ (Enters (board_at l.linked.found l.start) ∷ []))
      → IsVisiting g.walk l.linked l.visited (below ++ visits_of l.linked.found l.linked.numbers.items l.entered.items);
}

abbrev pub decreases-loop-last : goal.decreases-loop-last
decreases-loop-last g l = work_left (play g.walk) (visits_of l.linked.found l.linked.numbers.items l.entered.items)

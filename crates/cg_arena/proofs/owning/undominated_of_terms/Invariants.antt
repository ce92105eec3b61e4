use Rattle.cg_arena.specs.Arena.{AreIndexes}
use Rattle.cg_arena.specs.OrderMemos.{AreRight}
use Rattle.cg_arena.proofs.Antichains.{SoFar}
use Rattle.cg_arena.proofs.owning.undominated_of_terms.Given as goal

abbrev pub invariant-loop-x : goal.invariant-loop-x
invariant-loop-x l = record {
  right : AreRight l.arena l.answers;
  rest : AreIndexes l.arena l.rest.items;
  own : AreIndexes l.arena l.own.items;
  so_far : SoFar l.arena l.left l.firsts l.seconds l.rest.items l.own.items l.x-index;
}

use Rattle.std.proofs.Common.{take}
use Rattle.cg_arena.specs.Arena.{AreIndexes, games_of}
use Rattle.cg_arena.specs.Reach.{AreBounds}
use Rattle.cg_arena.specs.OrderMemos.{AreRight}
use Rattle.cg_arena.specs.Undominated.{Undominated}
use Rattle.cg_arena.proofs.best.undominated_in_turn.Given as goal

abbrev pub invariant-loop-x : goal.invariant-loop-x
invariant-loop-x l = record {
  right : AreRight l.arena l.answers;
  indexes : AreIndexes l.arena l.best.items.items;
  undominated : Undominated l.left (games_of l.arena (take l.x-index l.items)) (games_of l.arena l.best.items.items);
  bounds : AreBounds (games_of l.arena l.best.items.items) l.best.bounds;
}

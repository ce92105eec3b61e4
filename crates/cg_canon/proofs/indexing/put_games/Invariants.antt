use Rattle.std.proofs.Common.{◌≡◌, ◌≤◌, length, take}
use Rattle.cg_cells.specs.Store.{Spends}
use Rattle.cg_nodes.specs.Games.{games_at}
use Rattle.cg_arena.specs.Arena.{StandFor}
use Rattle.cg_canon.specs.Arena.{Begins}
use Rattle.cg_canon.specs.Interners.{InternerHolds}
use Rattle.cg_canon.proofs.indexing.put_games.Given as goal

abbrev pub invariant-loop-handle : goal.invariant-loop-handle
invariant-loop-handle g l = record {
  spends : Spends 0 (g.S.CellStore.state l.initial.store) (g.S.CellStore.state l.store);
  holds : InternerHolds (g.S.CellStore.state l.store) l.interner;
  begins : Begins l.initial.interner.arena l.interner.arena;
  games : StandFor l.interner.arena l.games.items (games_at (g.S.CellStore.state l.initial.store) (take l.handle-index l.handles));
  count : length l.games.items ≡ l.handle-index;
  room : length l.handles ≤ l.games.capacity;
}

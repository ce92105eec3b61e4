use Rattle.std.proofs.Common.{◌≡◌, ◌≤◌, length, take}
use Rattle.cg_nodes.specs.Games.{StandFor}
use Rattle.cg_arena.specs.Arena.{games_of}
use Rattle.cg_canon.proofs.interner.put_handles.Given as goal

abbrev pub invariant-loop-game : goal.invariant-loop-game
invariant-loop-game g l = record {
  handled : StandFor (g.S.CellStore.state l.store) l.handles.items (games_of l.interner.arena (take l.game-index l.games));
  count : length l.handles.items ≡ l.game-index;
  room : length l.games ≤ l.handles.capacity;
}

use Rattle.std.proofs.Common.{◌≡◌, take}
use Rattle.cg_canon.specs.Walking.{Appended}
use Rattle.cg_canon.proofs.walk.Walk.put_options.Given as goal

abbrev pub invariant-loop-game : goal.invariant-loop-game
invariant-loop-game l = record {
  positions : l.self.positions.items ≡ l.initial.self.positions.items;
  options : Appended l.initial.self.positions.items l.initial.self.options.items l.self.options.items (take l.game-index l.games);
}

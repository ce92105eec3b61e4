use Rattle.std.proofs.Common.{◌≡◌, ◌++◌, true, length, map, take}
use Rattle.std.specs.List.{flat_map}
use Rattle.cg_moves.specs.Rules.{cuts, pieces}
use Rattle.cg_moves.proofs.rules.Rules.pieces_of_all_into.Given as goal

abbrev pub invariant-loop-board : goal.invariant-loop-board
invariant-loop-board g l = record {
  room : cuts (g.Self.Rules.game l.self) ≡ true
      → l.room.items ≡ flat_map (pieces (g.Self.Rules.game l.self)) (take l.board-index l.boards);
  counts : cuts (g.Self.Rules.game l.self) ≡ true → l.counts.items
      ≡ l.fn.counts.items ++ map (λ q. length (pieces (g.Self.Rules.game l.self) q)) (take l.board-index l.boards);
}

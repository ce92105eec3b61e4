use Rattle.std.proofs.Common.{◌≡◌, ◌++◌, length, map, take}
use Rattle.std.specs.List.{flat_map}
use Rattle.cg_pieces.specs.Cells.{pieces_of}
use Rattle.cg_pieces.specs.Neighbours.{cell_game}
use Rattle.cg_pieces.proofs.cutting.pieces_of_all_into.Given as goal

abbrev pub invariant-loop-board : goal.invariant-loop-board
invariant-loop-board g l = record {
  room : l.room.items ≡ flat_map (pieces_of (cell_game (g.N.NeighbourRules.neighbours l.rules))) (take l.board-index l.boards);
  counts : l.counts.items ≡ l.fn.counts.items
      ++ map (λ q. length (pieces_of (cell_game (g.N.NeighbourRules.neighbours l.rules)) q)) (take l.board-index l.boards);
}

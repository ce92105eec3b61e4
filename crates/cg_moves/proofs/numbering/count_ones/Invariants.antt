use Rattle.std.proofs.Common.{◌≡◌, ◌++◌, map, take}
use Rattle.cg_moves.proofs.numbering.count_ones.Given as goal

abbrev pub invariant-loop-board : goal.invariant-loop-board
invariant-loop-board l = l.counts.items ≡ l.fn.counts.items ++ map (λ _. 1) (take l.board-index l.boards)

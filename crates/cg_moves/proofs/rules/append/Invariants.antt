use Rattle.std.proofs.Common.{◌≡◌, ◌++◌, take}
use Rattle.cg_moves.proofs.rules.append.Given as goal

abbrev pub invariant-loop-board : goal.invariant-loop-board
invariant-loop-board l = l.room.items ≡ l.fn.room.items ++ take l.board-index l.boards

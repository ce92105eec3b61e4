use Rattle.std.proofs.Common.{take}
use Rattle.cg_moves.specs.Words.{Marks}
use Rattle.cg_strip.specs.Placing.{stands_at}
use Rattle.cg_strip.proofs.placing.standing.Given as goal

-- the places at which the symbols so far stand
abbrev pub invariant-loop-offset : goal.invariant-loop-offset
invariant-loop-offset l = Marks l.places (stands_at l.board.cells (take l.offset l.pattern))

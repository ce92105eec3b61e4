use Rattle.std.proofs.Common.{◌≡◌, ◌++◌, List}
use Rattle.cg_moves.specs.Grid.{Grid}
use Rattle.cg_pieces.proofs.Taking.{AreTaken}
use Rattle.cg_pieces.proofs.cutting.append_pieces.Given as goal

abbrev pub invariant-loop-left : goal.invariant-loop-left
invariant-loop-left g l = (taken : List Grid) × (l.room.items ≡ l.fn.room.items ++ taken)
    × AreTaken (g.N.NeighbourRules.neighbours l.rules) l.board taken l.left

abbrev pub decreases-loop-left : goal.decreases-loop-left
decreases-loop-left g l = l.left

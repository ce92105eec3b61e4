use Rattle.std.proofs.Common.{length}
use Rattle.cg_nodes.specs.Games.{listed}
use Rattle.cg_nodes.proofs.Compared.{Passed}
use Rattle.cg_nodes.proofs.structure.parting_of_lists.Given as goal

abbrev pub invariant-loop-a : goal.invariant-loop-a
invariant-loop-a g l =
    Passed (g.S.CellStore.state l.initial.store) (g.S.CellStore.state l.store) l.initial.left l.initial.right l.left
    l.right

abbrev pub decreases-loop-a : goal.decreases-loop-a
decreases-loop-a g l = length (listed (g.S.CellStore.state l.store) l.left)

use Rattle.cg_form.specs.Depth.{depth_of}
use Rattle.cg_nodes.specs.Games.{game_at}
use Rattle.cg_nodes.proofs.Compared.{Follows}
use Rattle.cg_nodes.proofs.structure.compare_structure.Given as goal

abbrev pub invariant-loop-x : goal.invariant-loop-x
invariant-loop-x g l =
    Follows (g.S.CellStore.state l.initial.store) (g.S.CellStore.state l.store) l.initial.left l.initial.right l.left
    l.right

abbrev pub decreases-loop-x : goal.decreases-loop-x
decreases-loop-x g l = depth_of (game_at (g.S.CellStore.state l.store) l.left)

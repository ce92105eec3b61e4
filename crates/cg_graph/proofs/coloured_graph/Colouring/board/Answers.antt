use Rattle.std.proofs.Common.{List, ℕ, sym, subst}
use Rattle.std.specs.Prelude.{codes}
use Rattle.cg_moves.specs.Grid.{AreCells}
use Rattle.cg_graph.proofs.coloured_graph.Colouring.board.Goals as goal

pub make-requires-clause-cells : goal.make-requires-clause-cells
make-requires-clause-cells c =
    subst (λ (xs : List ℕ). AreCells (codes ".xo") xs) (sym c.vertices-2.ensures.value) c.vertices.ensures.sound.vertices

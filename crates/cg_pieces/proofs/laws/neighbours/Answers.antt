use Rattle.cg_pieces.proofs.NeighbourCuts.{neighbours-moves}
use Rattle.cg_pieces.proofs.NeighbourSets.{neighbours-cell_game}
use Rattle.cg_pieces.proofs.laws.neighbours.Goals as goal

pub returns-clause-cells : goal.returns-clause-cells
returns-clause-cells c = λ n laws. neighbours-cell_game n laws

pub returns-clause-cut : goal.returns-clause-cut
returns-clause-cut c = λ n r laws cuts. neighbours-moves n r laws cuts

use Rattle.cg_pieces.proofs.CutLaws.{by-cells}
use Rattle.cg_pieces.proofs.laws.cut_by_cells.Goals as goal

pub returns : goal.returns
returns c = λ g r laws cuts. by-cells g r laws cuts

use Rattle.cg_moves.proofs.PieceSums.{cut-by-moves}
use Rattle.cg_moves.proofs.laws.cut_by_moves.Goals as goal

pub returns : goal.returns
returns c = λ r moves cut. cut-by-moves r moves cut

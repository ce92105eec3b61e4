use Rattle.cg_pieces.proofs.NeighbourSets.{joined-so, so-joined}
use Rattle.cg_pieces.proofs.laws.joined.Goals as goal

pub returns : goal.returns
returns c = λ n p k l laws. (joined-so n laws p k l, so-joined n laws p k l)

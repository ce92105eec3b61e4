use Rattle.cg_moves.proofs.LargePlaces.{large-place}
use Rattle.cg_moves.proofs.laws.large.Goals as goal

pub returns : goal.returns
returns c = large-place

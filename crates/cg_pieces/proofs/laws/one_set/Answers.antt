use Rattle.cg_pieces.proofs.OneMove.{pieces-after}
use Rattle.cg_pieces.proofs.laws.one_set.Goals as goal

pub returns : goal.returns
returns c = λ g p before s behind after small laws cut o. pieces-after g laws p before s behind after small cut o

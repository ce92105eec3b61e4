use Rattle.cg_names.proofs.Mirrored.{downs-negative}
use Rattle.cg_names.proofs.laws.negatives.Goals as goal

pub returns : goal.returns
returns c = downs-negative

use Rattle.cg_nimbers.proofs.NimberSums.{nimber_sum}
use Rattle.cg_nimbers.proofs.laws.nimber_sums.Goals as goal

pub returns : goal.returns
returns c = nimber_sum

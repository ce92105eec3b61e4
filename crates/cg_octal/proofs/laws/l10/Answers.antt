use Rattle.cg_nimbers.proofs.NimberSums.{nimber_sum}
use Rattle.cg_octal.proofs.Nimbers.{least_missing-equal}
use Rattle.cg_octal.proofs.laws.l10.Goals as goal

pub returns-clause-sums : goal.returns-clause-sums
returns-clause-sums c = nimber_sum

pub returns-clause-least : goal.returns-clause-least
returns-clause-least c = least_missing-equal

use Rattle.cg_moves.proofs.RisingLemmas.{rising-rises}
use Rattle.cg_strip.specs.Toads.{hops}
use Rattle.cg_strip.proofs.ToadsLaw.{hop_is, hop_has}
use Rattle.cg_strip.proofs.laws.toads_moves.Goals as goal

pub returns-clause-hops : goal.returns-clause-hops
returns-clause-hops c player row after = (hop_is player row after, hop_has player row after)

pub returns-clause-order : goal.returns-clause-order
returns-clause-order c player row = rising-rises (hops player row)

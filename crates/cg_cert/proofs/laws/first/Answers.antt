use Rattle.cg_cert.specs.Pairs.{pair}
use Rattle.cg_cert.proofs.FirstProof.{first_proof-options, first_proof-proves}
use Rattle.cg_cert.proofs.laws.first.Goals as goal

pub returns-clause-proves : goal.returns-clause-proves
returns-clause-proves c = λ g h l. first_proof-proves (pair g h) l

pub returns-clause-options : goal.returns-clause-options
returns-clause-options c = first_proof-options

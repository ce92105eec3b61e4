use Rattle.std.proofs.Common.{◌∙◌, to_z, of_z}
use Rattle.std.proofs.lemmas.Int.{to_z-of_z}
use mir.Syntax.{w128}
use Rattle.cg_nodes.proofs.LongSteps.{chunks_lowest}
use Rattle.cg_nodes.specs.LongKeysLaw.{IsLongFraction}
use Rattle.cg_nodes.proofs.long.number_of_chunks.Goals as goal

terms : (c : goal.After-num_in) → IsLongFraction (to_z w128 (of_z w128 c.num_in.result)) c.args.exp
terms c =
    chunks_lowest c.args.negative c.args.exp c.args.low c.args.high _
    (to_z-of_z w128 c.num_in.result (record { sfits = c.num_in.type_inv }) ∙ c.num_in.ensures) c.requires

pub of_lowest-requires-clause-lowest : goal.of_lowest-requires-clause-lowest
of_lowest-requires-clause-lowest c = (terms c).lowest

pub of_lowest-requires-clause-small : goal.of_lowest-requires-clause-small
of_lowest-requires-clause-small c = (terms c).small

pub of_lowest-requires-clause-short : goal.of_lowest-requires-clause-short
of_lowest-requires-clause-short c = (terms c).short

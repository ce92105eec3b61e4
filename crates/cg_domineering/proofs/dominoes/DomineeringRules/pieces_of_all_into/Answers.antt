use Rattle.cg_domineering.proofs.Placing.{symbols-are}
use Rattle.cg_domineering.proofs.dominoes.DomineeringRules.pieces_of_all_into.Goals as goal

pub pieces_of_all_into-requires-clause-symbols : goal.pieces_of_all_into-requires-clause-symbols
pieces_of_all_into-requires-clause-symbols c = λ q m. symbols-are q (c.requires.has q m)

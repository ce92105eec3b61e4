use Rattle.cg_clobber.proofs.Placing.{symbols-are}
use Rattle.cg_clobber.proofs.stones.ClobberRules.pieces_of_all_into.Goals as goal

pub pieces_of_all_into-requires-clause-symbols : goal.pieces_of_all_into-requires-clause-symbols
pieces_of_all_into-requires-clause-symbols c = λ q m. symbols-are q (c.requires.has q m)

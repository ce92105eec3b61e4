use Rattle.cg_domineering.proofs.Placing.{symbols-are}
use Rattle.cg_domineering.proofs.dominoes.DomineeringRules.pieces_into.Goals as goal

pub pieces_into-requires : goal.pieces_into-requires
pieces_into-requires c = symbols-are c.args.board.now c.requires

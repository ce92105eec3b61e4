use Rattle.cg_domineering.proofs.Placing.{symbols-are}
use Rattle.cg_domineering.proofs.dominoes.DomineeringRules.pieces.Goals as goal

pub pieces-requires : goal.pieces-requires
pieces-requires c = symbols-are c.args.board.now c.requires

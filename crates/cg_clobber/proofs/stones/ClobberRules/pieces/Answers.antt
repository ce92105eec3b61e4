use Rattle.cg_clobber.proofs.Placing.{symbols-are}
use Rattle.cg_clobber.proofs.stones.ClobberRules.pieces.Goals as goal

pub pieces-requires : goal.pieces-requires
pieces-requires c = symbols-are c.args.board.now c.requires

use Rattle.cg_domineering.proofs.Placing.{symbols-are}
use Rattle.cg_domineering.proofs.fitting.spots.Goals as goal

pub empty_cells-empty-requires : goal.empty_cells-empty-requires
empty_cells-empty-requires c = symbols-are c.args.board.now c.requires

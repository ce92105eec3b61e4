use Rattle.cg_pieces.proofs.Frames.{wide-grid}
use Rattle.cg_domineering.proofs.Moving.{dominoes-moving}
use Rattle.cg_domineering.proofs.dominoes.DomineeringNeighbourRules.moving_cells.Goals as goal

pub returns : goal.returns
returns c =
    dominoes-moving c.args.board.now (wide-grid c.args.board.now c.size-size.ensures.grid) c.left_spots-below.result
    c.right_spots-beside.result c.left_spots-below.ensures c.right_spots-beside.ensures

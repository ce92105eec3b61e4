use Rattle.cg_clobber.proofs.StoneWords.{stone-marks}
use Rattle.cg_clobber.proofs.stones.ClobberNeighbourRules.piece_cells.Goals as goal

pub returns : goal.returns
returns c =
    stone-marks c.args.board.now c.requires c.planes-planes.ensures.grid c.planes-planes.result
    c.planes-planes.ensures.planes

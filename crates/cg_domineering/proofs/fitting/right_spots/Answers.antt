use Rattle.std.proofs.Common.{arith}
use Rattle.cg_pieces.proofs.Frames.{wide-grid}
use Rattle.cg_domineering.proofs.Placing.{right_marks}
use Rattle.cg_domineering.proofs.fitting.right_spots.Goals as goal

pub returns : goal.returns
returns c =
    right_marks c.args.board.now c.args.empty c.args.first c.moved_back-beside.result
    (wide-grid c.args.board.now c.columns-columns.ensures.grid) (omega (arith, c.ranges.empty.fits))
    (omega (arith, c.ranges.first.fits)) c.requires.empty c.requires.first c.moved_back-beside.ensures

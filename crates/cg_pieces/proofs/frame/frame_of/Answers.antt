use Rattle.cg_pieces.proofs.FrameWords.{frame-is}
use Rattle.cg_pieces.proofs.frame.frame_of.Goals as goal

pub returns : goal.returns
returns c =
    frame-is c.args.board.now c.columns-columns.ensures.grid c.args.set c.args.first c.requires.set c.columns-columns.result
    c.last_bit.result c.left_edge-left.result c.right_edge-right.result c.columns-columns.ensures.value
    c.last_bit.ensures.one c.last_bit.ensures.last c.left_edge-left.ensures c.right_edge-right.ensures

use Rattle.std.proofs.Common.{◌∙◌}
use Rattle.cg_pieces.proofs.CropWords.{crop-grid, crop-is}
use Rattle.cg_pieces.proofs.frame.crop.Goals as goal

pub planes_in-planes-requires-clause-set : goal.planes_in-planes-requires-clause-set
planes_in-planes-requires-clause-set c = (c.args.first, c.requires.set)

pub with_planes-requires : goal.with_planes-requires
with_planes-requires c =
    crop-grid c.args.board.now c.size-size.ensures.grid c.args.set c.args.first _ c.requires.set c.requires.blank.contained
    c.frame_of-frame.result c.frame_of-frame.ensures c.planes_in-planes.result c.planes_in-planes.ensures

pub returns : goal.returns
returns c =
    c.with_planes.ensures
    ∙ crop-is c.args.board.now c.size-size.ensures.grid c.args.set c.args.first _ c.requires.set c.requires.blank.contained
    c.frame_of-frame.result c.frame_of-frame.ensures c.planes_in-planes.result c.planes_in-planes.ensures

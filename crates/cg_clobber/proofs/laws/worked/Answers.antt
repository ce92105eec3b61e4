use Rattle.std.proofs.Common.{refl}
use Rattle.cg_pieces.specs.Boxes.{box_of, cropped}
use Rattle.cg_pieces.specs.Neighbours.{are_joined}
use Rattle.cg_clobber.proofs.laws.worked.Goals as goal

pub returns : goal.returns
unfolding cropped box_of are_joined
returns c = refl

use Rattle.std.proofs.Common.{refl}
use Rattle.cg_pieces.specs.Boxes.{box_of, cropped}
use Rattle.cg_pieces.specs.Neighbours.{are_joined}
use Rattle.cg_domineering.proofs.laws.worked.Goals as goal

pub returns-clause-bounded : goal.returns-clause-bounded
unfolding cropped box_of are_joined
returns-clause-bounded c = refl

pub returns-clause-twice : goal.returns-clause-twice
unfolding cropped box_of are_joined
returns-clause-twice c = refl

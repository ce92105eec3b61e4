use Rattle.cg_dyadic.proofs.Middle.{middle, middle_between}
use Rattle.cg_dyadic.proofs.Values.{number_le-refl, number_le-same, number_le-total, number_le-trans}
use Rattle.cg_dyadic.proofs.laws.order.Goals as goal

pub returns : goal.returns
returns c = record {
  reflexive = number_le-refl;
  transitive = number_le-trans;
  total = number_le-total;
  antisymmetric = number_le-same;
  dense = λ x y h. (middle x y, (middle_between x y h).0, (middle_between x y h).1);
}

use Rattle.cg_dyadic.proofs.Values.{left-le_number, not_le-left_number, not_le-right_number, number_gap, right-le_number}
use Rattle.cg_dyadic.proofs.Weight.{in_range-lefts, in_range-rights, weight-lefts, weight-rights}
use Rattle.cg_dyadic.proofs.laws.options.Goals as goal

pub returns : goal.returns
returns c = record {
  left_is_less = λ x y m. (left-le_number x y m, not_le-left_number x y m);
  right_is_greater = λ x y m. (right-le_number x y m, not_le-right_number x y m);
  left_in_range = in_range-lefts;
  right_in_range = in_range-rights;
  left_weighs_less = weight-lefts;
  right_weighs_less = weight-rights;
  gap = λ x y h. (number_gap x y h).way;
}

use Rattle.cg_dyadic.proofs.Sums.{negative-cancels, negative-exists, negative-order, sum-commutes, sum-exists, sum-order}
use Rattle.cg_dyadic.proofs.laws.arithmetic.Goals as goal

pub returns : goal.returns
returns c = record {
  sum_exists = sum-exists;
  sum_commutes = sum-commutes;
  sum_keeps_order = sum-order;
  negative_exists = negative-exists;
  negative_turns_order = negative-order;
  negative_cancels = negative-cancels;
}

use Rattle.cg_form.proofs.CanonicalOptions.{left_irreversible, left_undominated, right_irreversible, right_undominated}
use Rattle.cg_form.proofs.Exists.{canonical_exists}
use Rattle.cg_form.proofs.Removed.{left_above, left_bypassed, left_removed, right_below, right_bypassed, right_removed}
use Rattle.cg_form.proofs.Unique.{canonical_form-same}
use Rattle.cg_form.proofs.laws.l5.Goals as goal

pub returns : goal.returns
returns c = record {
  exists = canonical_exists;
  unique = canonical_form-same;
  left_undominated = left_undominated;
  right_undominated = right_undominated;
  left_irreversible = left_irreversible;
  right_irreversible = right_irreversible;
  left_dominated = left_removed;
  right_dominated = right_removed;
  left_reversible = left_bypassed;
  right_reversible = right_bypassed;
  left_through_number = left_above;
  right_through_number = right_below;
}

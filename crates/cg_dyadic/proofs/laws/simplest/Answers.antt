use Rattle.std.proofs.Common.{Some}
use Rattle.cg_dyadic.specs.Cut.{in_gap, is_between}
use Rattle.cg_dyadic.proofs.Gap.{gap_convex}
use Rattle.cg_dyadic.proofs.Simplest.{simplest_for}
use Rattle.cg_dyadic.proofs.laws.simplest.Goals as goal

pub returns : goal.returns
returns c = record {
  in_gap = λ low high x. simplest_for (in_gap low high) x (gap_convex low high);
  between = λ p q x b d. simplest_for (is_between p b q d) x
      (gap_convex (Some (record { at = p; closed = b })) (Some (record { at = q; closed = d })));
}

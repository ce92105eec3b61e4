use Rattle.cg_nodes.proofs.laws.canonical_forms.Goals as goal
use Rattle.cg_nodes.specs.CanLaw.{can-is, can-only, is_canonical-back, is_canonical-true}

pub returns : goal.returns
returns c = record {
  form = can-is;
  only = can-only;
  test = λ g. (is_canonical-back g, is_canonical-true g);
}

use Rattle.cg_names.proofs.NameRule.{one_named, same_name, some_name}
use Rattle.cg_names.proofs.StarredUps.{ups-plus_star}
use Rattle.cg_canon.proofs.Translated.{can-shifted}
use Rattle.cg_names.proofs.laws.names.Goals as goal

pub returns : goal.returns
returns c = record {
  named = some_name;
  one_name = same_name;
  one_named = one_named;
  moved = can-shifted;
  starred = ups-plus_star;
}

use Rattle.std.proofs.Common.{[]}
use Rattle.cg_form.specs.Extended.{extended, positions_before}
use Rattle.cg_form.proofs.AllPositions.{among-positions_of, positions_of-among, positions_of-canonical, positions_of-last}
use Rattle.cg_form.proofs.AllPositions.{positions_of-number, positions_of-once, positions_of-options_first}
use Rattle.cg_form.proofs.Structure.{is_same-both}
use Rattle.cg_form.proofs.laws.position_lists.Goals as goal

pub returns : goal.returns
returns c = record {
  number = positions_of-number;
  same = is_same-both;
  members = λ g k. (positions_of-among g k, among-positions_of g k);
  once = positions_of-once;
  last = λ g. (extended [] (positions_before g), positions_of-last g);
  options_first = positions_of-options_first;
  canonical = positions_of-canonical;
}

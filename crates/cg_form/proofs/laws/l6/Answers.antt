use Rattle.cg_form.proofs.Decide.{number-decide}
use Rattle.cg_form.proofs.StopValues.{above_left_stop, below_right_stop, equal_stops, stops-options, stops_ordered, stops_unique}
use Rattle.cg_form.proofs.laws.l6.Goals as goal

pub returns : goal.returns
returns c = record {
  decided = number-decide;
  unique = stops_unique;
  options = stops-options;
  ordered = stops_ordered;
  below = below_right_stop;
  above = above_left_stop;
  equal = λ d. equal_stops d d;
}

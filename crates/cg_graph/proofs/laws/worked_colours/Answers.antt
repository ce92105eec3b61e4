use Rattle.std.proofs.Common.{refl}
use Rattle.cg_moves.specs.Rising.{rising}
use Rattle.cg_graph.proofs.laws.worked_colours.Goals as goal

pub returns-clause-snort_right : goal.returns-clause-snort_right
unfolding rising
returns-clause-snort_right c = refl

pub returns-clause-snort_left : goal.returns-clause-snort_left
unfolding rising
returns-clause-snort_left c = refl

pub returns-clause-col_left : goal.returns-clause-col_left
unfolding rising
returns-clause-col_left c = refl

pub returns-clause-col_right : goal.returns-clause-col_right
unfolding rising
returns-clause-col_right c = refl

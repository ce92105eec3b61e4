use Rattle.std.proofs.Common.{refl}
use Rattle.cg_moves.specs.Rising.{rising}
use Rattle.cg_graph.specs.Paths.{is_joined}
use Rattle.cg_graph.specs.Hackenbush.{cut}
use Rattle.cg_graph.proofs.laws.worked.Goals as goal

pub returns-clause-left : goal.returns-clause-left
unfolding cut is_joined rising
returns-clause-left c = refl

pub returns-clause-right : goal.returns-clause-right
unfolding cut is_joined rising
returns-clause-right c = refl

pub returns-clause-start : goal.returns-clause-start
unfolding is_joined
returns-clause-start c = refl

use Rattle.cg_names.proofs.PairSteps.{pair_count-other, pair_count-same}
use Rattle.cg_names.proofs.pairs.pair_count.Goals as goal

pub returns-then-is_same : goal.returns-then-is_same
returns-then-is_same c = pair_count-same c.args.x c.args.y (c.is_same.ensures.same c.if-is_same.true)

pub returns-else-is_same : goal.returns-else-is_same
returns-else-is_same c = pair_count-other c.args.x c.args.y (c.is_same.ensures.other c.if-is_same.false)

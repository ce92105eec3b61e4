use Rattle.cg_nimbers.proofs.SameNumbers.{tells_other, tells_same}
use Rattle.cg_names.proofs.numbers.is_same.Goals as goal

pub returns-clause-same : goal.returns-clause-same
returns-clause-same c = tells_same c.args.x c.args.y c.eq.result c.eq.ensures

pub returns-clause-other : goal.returns-clause-other
returns-clause-other c = tells_other c.args.x c.args.y c.eq.result c.eq.ensures

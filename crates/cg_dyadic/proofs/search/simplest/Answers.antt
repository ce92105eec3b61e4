use Rattle.cg_dyadic.proofs.Gap.{outside_between}
use Rattle.cg_dyadic.proofs.search.simplest.Goals as goal

pub returns-in-Outside-clause-none : goal.returns-in-Outside-clause-none
returns-in-Outside-clause-none c = λ u. outside_between c.args.low.now c.args.high.now c.in-Outside.ensures.0 c.in-Outside.ensures.2 c.in-Outside.ensures.3

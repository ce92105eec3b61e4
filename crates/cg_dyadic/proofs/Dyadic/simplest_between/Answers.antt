use Rattle.cg_dyadic.proofs.Strict.{outside_is, strict_simplest, strict_there}
use Rattle.cg_dyadic.proofs.Dyadic.simplest_between.Goals as goal

pub unreachable-requires : goal.unreachable-requires
unreachable-requires c = strict_there c.args.low c.args.high _ _ c.closed_cut-below.ensures c.closed_cut-above.ensures c.requires (c.in-Nothing.ensures)

pub returns-in-Number-clause-found : goal.returns-in-Number-clause-found
returns-in-Number-clause-found c = strict_simplest c.args.low c.args.high c.in-Number.x _ _ c.closed_cut-below.ensures c.closed_cut-above.ensures c.in-Number.ensures.0

pub returns-in-Outside-clause-range : goal.returns-in-Outside-clause-range
returns-in-Outside-clause-range c = outside_is c.args.low c.args.high _ _ c.in-Outside.f c.closed_cut-below.ensures c.closed_cut-above.ensures c.in-Outside.ensures.0 c.in-Outside.ensures.1 c.in-Outside.ensures.2 c.in-Outside.ensures.3

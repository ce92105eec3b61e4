use Rattle.std.proofs.Common.{subst}
use Rattle.cg_dyadic.specs.Wide.{InWide}
use Rattle.cg_dyadic.proofs.Wides.{word-wide}
use Rattle.cg_dyadic.proofs.wide.Wide.units.Goals as goal

pub returns-clause-in_range : goal.returns-clause-in_range
returns-clause-in_range c = subst InWide c.self.view_is (word-wide c.self.inside.word c.self.invariant.small)

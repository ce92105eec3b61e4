use Rattle.std.proofs.Common.{sym, subst}
use Rattle.std.proofs.lemmas.Int.{to_z-of_z}
use mir.Syntax.{w128}
use Rattle.cg_dyadic.specs.Held.{IsWideWord}
use Rattle.cg_dyadic.proofs.Wides.{word}
use Rattle.cg_dyadic.proofs.wide.Wide.of_units.Goals as goal

pub invariant_of-result : goal.invariant_of-result
invariant_of-result c = subst IsWideWord (sym (to_z-of_z w128 c.args.units c.ranges.units)) (word c.args.units c.requires)

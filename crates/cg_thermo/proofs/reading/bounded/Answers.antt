use Rattle.std.proofs.lemmas.Int.{to_z-of_z}
use mir.Syntax.{w128}
use Rattle.std.proofs.Common.{ap, ◌∙◌, rules}
use Rattle.cg_dyadic.specs.Units.{units}
use Rattle.cg_dyadic.specs.Wide.{places}
use Rattle.cg_dyadic.proofs.Scale.{units-ratio}
use Rattle.cg_thermo.proofs.Lining.{wide_along}
use Rattle.cg_thermo.proofs.reading.bounded.Goals as goal

pub returns-then-unsigned_abs-clause-some : goal.returns-then-unsigned_abs-clause-some
returns-then-unsigned_abs-clause-some c = ap (units places) c.of_units.ensures ∙ units-ratio _ places ∙ to_z-of_z w128 c.args.value c.ranges.value

pub returns-then-unsigned_abs-clause-wide : goal.returns-then-unsigned_abs-clause-wide
returns-then-unsigned_abs-clause-wide c =
    wide_along c.of_units.result _ c.args.value c.of_units.ensures (to_z-of_z w128 c.args.value c.ranges.value)
    (search rules)

use Rattle.std.proofs.Common.{ap, ◌∙◌}
use Rattle.std.proofs.lemmas.Int.{to_z-of_z}
use mir.Syntax.{w128}
use Rattle.cg_dyadic.specs.Number.{ratio}
use Rattle.cg_dyadic.specs.Wide.{places}
use Rattle.cg_dyadic.proofs.Wides.{places-enough, ratio-units}
use Rattle.cg_dyadic.proofs.wide.Wide.of.Goals as goal

pub returns-clause-same : goal.returns-clause-same
returns-clause-same c = c.of_units.ensures ∙ ap (λ n. ratio n places) (to_z-of_z w128 c.units_of.result (record { sfits = c.units_of.type_inv }) ∙ c.units_of.ensures.value) ∙ ratio-units places c.args.x (places-enough c.args.x c.units_of.ensures.in_range)

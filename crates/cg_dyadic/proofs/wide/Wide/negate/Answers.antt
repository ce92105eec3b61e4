use Rattle.std.proofs.Common.{◌∙◌, ap}
use Rattle.cg_dyadic.specs.Number.{ratio}
use Rattle.cg_dyadic.specs.Wide.{places}
use Rattle.std.specs.Prelude.{pos, ◌-ℤ◌}
use Rattle.cg_dyadic.proofs.Wides.{minus_sum, minus_word, negative-from}
use Rattle.cg_dyadic.proofs.wide.Wide.negate.Goals as goal

pub returns : goal.returns
returns c = negative-from places c.args.self c.of_units.result (pos 0 -ℤ c.units.result) c.units.ensures.in_range.short
    (minus_sum _ _ c.units.ensures.value) (c.of_units.ensures ∙ ap (λ n. ratio n places) (minus_word c.units.result c.units.ensures.small))

use Rattle.std.proofs.Common.{ap, ◌∙◌, arith}
use Rattle.cg_dyadic.specs.Number.{ratio}
use Rattle.std.specs.Prelude.{negsuc}
use Rattle.cg_thermo.proofs.Picturing.{minus_in_range, minus_one}
use Rattle.cg_thermo.proofs.thermo.number_temperature.Goals as goal

pub unreachable-requires : goal.unreachable-requires
unreachable-requires c =
    let w = c.in-Err.ensures in
    w.3 (minus_in_range c.exp.result w.0 w.1 (let e = c.exp.ensures.value in let r = c.exp.ensures.in_range.short in omega arith))

pub returns : goal.returns
returns c = c.of.ensures.same ∙ minus_one c.exp.result c.in-Ok.temperature c.in-Ok.ensures.0 ∙ ap (ratio (negsuc 0)) c.exp.ensures.value

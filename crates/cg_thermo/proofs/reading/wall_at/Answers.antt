use Rattle.cg_thermo.proofs.Rescaled.{none_on_line, some_on_line}
use Rattle.cg_thermo.proofs.reading.wall_at.Goals as goal

pub returns-clause-some : goal.returns-clause-some
returns-clause-some c = some_on_line c.line_of.result c.as_slice.result.now c.args.corners.now c.args.t c.as_slice.ensures.items
    c.as_slice.ensures.whole c.line_of.ensures.time c.line_of.ensures.wide c.line_of.ensures.some

pub returns-clause-none : goal.returns-clause-none
returns-clause-none c = none_on_line c.line_of.result c.as_slice.result.now c.args.corners.now c.args.t c.as_slice.ensures.items
    c.as_slice.ensures.whole c.line_of.ensures.time c.line_of.ensures.none

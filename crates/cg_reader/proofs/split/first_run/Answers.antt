use Rattle.cg_reader.proofs.Cutting.{skip_one, found_run}
use Rattle.cg_reader.proofs.split.first_run.Goals as goal

pub returns-then-row-bars-clause-some : goal.returns-then-row-bars-clause-some
returns-then-row-bars-clause-some c = found_run c.args.bars c.args.rows.now c.loop-row.rest.now c.loop-row.index c.in-Some.row.now c.in-Some.others.now
    c.loop-row.invariant c.in-Some.ensures.cases.0 c.if-row-bars.true

pub loop-row-preserved : goal.loop-row-preserved
loop-row-preserved c = skip_one c.args.bars c.args.rows.now c.loop-row.rest.now c.loop-row.index c.in-Some.row.now c.in-Some.others.now c.loop-row.invariant
    c.in-Some.ensures.cases.0 c.if-row-bars.false

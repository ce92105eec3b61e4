use Rattle.cg_cells.proofs.Runs.{keeps_rule, closes, needs_live}
use Rattle.cg_cells.proofs.law_steps.steps.Goals as goal

pub returns-clause-whole : goal.returns-clause-whole
returns-clause-whole g c = keeps_rule g.F.Facts.meaning g.met.F.Facts.lawful

pub returns-clause-closed : goal.returns-clause-closed
returns-clause-closed g c = closes g.F.Facts.meaning g.met.F.Facts.lawful

pub returns-clause-last : goal.returns-clause-last
returns-clause-last g c = needs_live g.F.Facts.meaning g.met.F.Facts.lawful

use Rattle.cg_values.proofs.Fronts.{verdict-apart}
use Rattle.cg_eval.proofs.Verdicts.{verdict-decided, verdict-passed, verdict-stopped}
use Rattle.cg_eval.proofs.laws.one_verdict.Goals as goal

pub returns-clause-decided : goal.returns-clause-decided
returns-clause-decided c = verdict-decided

pub returns-clause-apart : goal.returns-clause-apart
returns-clause-apart c = verdict-apart

pub returns-clause-passed : goal.returns-clause-passed
returns-clause-passed c = verdict-passed

pub returns-clause-stopped : goal.returns-clause-stopped
returns-clause-stopped c = verdict-stopped

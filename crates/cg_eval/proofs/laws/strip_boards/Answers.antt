use Rattle.std.proofs.Common.{sym}
use Rattle.cg_eval.proofs.StripReadings.{strip-only, strip-some}
use Rattle.cg_eval.proofs.laws.strip_boards.Goals as goal

pub returns-clause-some : goal.returns-clause-some
returns-clause-some c rules row = strip-some rules row

pub returns-clause-only : goal.returns-clause-only
returns-clause-only c rules row p is = sym (strip-only rules row p is)

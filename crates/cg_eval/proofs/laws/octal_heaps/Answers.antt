use Rattle.cg_eval.proofs.OctalReadings.{octal-is_read, octal-only}
use Rattle.cg_eval.proofs.laws.octal_heaps.Goals as goal

pub returns-clause-some : goal.returns-clause-some
returns-clause-some c = octal-is_read

pub returns-clause-only : goal.returns-clause-only
returns-clause-only c = octal-only

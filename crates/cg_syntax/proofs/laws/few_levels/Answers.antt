use Rattle.std.proofs.Common.{None}
use Rattle.cg_syntax.proofs.GrammarLevels.{stated_low}
use Rattle.cg_syntax.proofs.laws.few_levels.Goals as goal

pub returns : goal.returns
returns c format line s reads = stated_low format line (record { statement = s; fault = None }) reads

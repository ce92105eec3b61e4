use Rattle.cg_strip.proofs.ToadsText.{toads_read, toads_strip}
use Rattle.cg_strip.proofs.laws.toads_are_strip.Goals as goal

pub returns-clause-reads : goal.returns-clause-reads
returns-clause-reads c = toads_read

pub returns-clause-moves : goal.returns-clause-moves
returns-clause-moves c = toads_strip

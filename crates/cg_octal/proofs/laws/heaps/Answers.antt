use Rattle.cg_octal.proofs.HeapRule.{heap-options}
use Rattle.cg_octal.proofs.laws.heaps.Goals as goal

pub returns : goal.returns
returns c = heap-options

use Rattle.cg_writer.proofs.Writable.{line_writable}
use Rattle.cg_syntax.proofs.Closed.{askable_closed}
use Rattle.cg_syntax.proofs.laws.no_names.Goals as goal

pub returns : goal.returns
returns c line q reads = askable_closed q (line_writable line q reads)

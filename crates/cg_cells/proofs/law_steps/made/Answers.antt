use Rattle.cg_cells.proofs.Making.{has_made}
use Rattle.cg_cells.proofs.law_steps.made.Goals as goal

pub returns : goal.returns
returns g c = has_made g.F.Facts.meaning

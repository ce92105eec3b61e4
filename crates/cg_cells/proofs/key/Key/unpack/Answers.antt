use Rattle.cg_cells.proofs.Layouts.{parts_from}
use Rattle.cg_cells.proofs.key.Key.unpack.Goals as goal

pub returns-clause-parts : goal.returns-clause-parts
returns-clause-parts c = rw (← c.self.view_is) (parts_from _ _ c.unpacked.ensures.some c.unpacked.ensures.none)

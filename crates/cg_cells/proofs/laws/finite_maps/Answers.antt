use Rattle.cg_cells.proofs.Finite.{finite}
use Rattle.cg_cells.proofs.laws.finite_maps.Goals as goal

pub returns : goal.returns
returns g c = finite g.F.Facts.meaning g.met.F.Facts.lawful

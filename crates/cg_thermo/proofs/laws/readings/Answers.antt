use Rattle.cg_thermo.proofs.WallLines.{left-reading, right-reading}
use Rattle.cg_thermo.proofs.laws.readings.Goals as goal

pub returns : goal.returns
returns c = record { left = left-reading; right = right-reading }

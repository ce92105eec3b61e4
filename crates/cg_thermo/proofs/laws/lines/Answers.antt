use Rattle.cg_thermo.proofs.WallLines.{left-line, right-line}
use Rattle.cg_thermo.proofs.laws.lines.Goals as goal

pub returns : goal.returns
returns c = record { left = left-line; right = right-line }

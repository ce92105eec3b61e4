use Rattle.std.proofs.Common.{take}
use Rattle.cg_moves.specs.PlaneBits.{ArePlanes}
use Rattle.cg_moves.proofs.planes.planes_of.Given as goal

abbrev pub invariant-loop-cell : goal.invariant-loop-cell
invariant-loop-cell l = ArePlanes l.symbols (take l.cell l.cells) l.planes

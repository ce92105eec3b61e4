use Rattle.std.proofs.Common.{◌≡◌, map, take}
use Rattle.cg_thermo.specs.Signed.{corner_at}
use Rattle.cg_thermo.proofs.corners.corners_of.Given as goal

abbrev pub invariant-loop-point : goal.invariant-loop-point
invariant-loop-point l = l.items.items ≡ map (corner_at l.negated) (take l.point-index l.points)

use Rattle.std.proofs.Common.{◌≡◌, length}
use Rattle.cg_thermo.specs.Progress.{AreWallPairs, walked}
use Rattle.cg_thermo.proofs.pairing_walls.wall_pairs_of.Given as goal

abbrev pub invariant-loop-place : goal.invariant-loop-place
invariant-loop-place g l = (length l.wall_pairs.items ≡ l.place) × AreWallPairs (walked l.work.arena l.walk) l.wall_pairs.items

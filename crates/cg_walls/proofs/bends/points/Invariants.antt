use Rattle.std.proofs.Common.{◌≡◌, ◌++◌, ◌-◌, ◌≤◌}
use Rattle.cg_walls.specs.declared.TheConstants.{END}
use Rattle.cg_walls.specs.Corners.{corners}
use Rattle.cg_walls.specs.Places.{At}
use Rattle.cg_walls.specs.Rises.{value_at}
use Rattle.cg_walls.proofs.Bending.{corners_after}
use Rattle.cg_walls.proofs.bends.points.Given as goal

abbrev pub invariant-loop-p : goal.invariant-loop-p
invariant-loop-p l = record {
  place : At l.rise l.now l.p;
  inside : l.now ≤ l.end;
  all : l.points.items ++ corners_after (value_at l.rise) l.now (l.end - l.now) ≡ corners (value_at l.rise) l.end;
}

abbrev pub decreases-loop-p : goal.decreases-loop-p
decreases-loop-p l = END - l.now

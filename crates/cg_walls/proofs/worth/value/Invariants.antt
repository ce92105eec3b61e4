use Rattle.std.proofs.Common.{◌-◌, ◌≤◌}
use Rattle.cg_walls.specs.declared.TheConstants.{END}
use Rattle.cg_walls.specs.Places.{At}
use Rattle.cg_walls.proofs.worth.value.Given as goal

abbrev pub invariant-loop-p : goal.invariant-loop-p
invariant-loop-p l = record {
  place : At l.rise l.now l.p;
  inside : l.now ≤ l.at;
}

abbrev pub decreases-loop-p : goal.decreases-loop-p
decreases-loop-p l = END - l.now

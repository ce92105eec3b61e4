use Rattle.std.proofs.Common.{◌≡◌, ◌-◌}
use Rattle.cg_walls.specs.declared.TheConstants.{END}
use Rattle.cg_walls.specs.Places.{event}
use Rattle.cg_walls.proofs.Merging.{Merged}
use Rattle.cg_walls.proofs.upper.higher.Given as goal

abbrev pub invariant-loop-to : goal.invariant-loop-to
invariant-loop-to l = record {
  merged : Merged l.a l.b l.first l.turns.items l.now l.up l.p l.q;
  next : l.to ≡ event l.a l.b l.now l.p l.q;
}

abbrev pub decreases-loop-to : goal.decreases-loop-to
decreases-loop-to l = END - l.now

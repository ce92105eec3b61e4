use Rattle.std.proofs.Common.{◌-◌}
use Rattle.cg_walls.specs.declared.TheConstants.{END}
use Rattle.cg_walls.proofs.Gaps.{Apart}
use Rattle.cg_walls.proofs.meet.meeting.Given as goal

abbrev pub invariant-loop-now : goal.invariant-loop-now
invariant-loop-now l = Apart l.a l.b l.now l.p l.q

abbrev pub decreases-loop-now : goal.decreases-loop-now
decreases-loop-now l = END - l.now

use Rattle.std.proofs.Common.{◌-◌, ◌+◌, ◌^◌, ◌≤◌, length}
use Rattle.std.specs.Io.KnownBytes.{Consumes}
use Rattle.cg_session.proofs.input.read_input.Given as goal

abbrev pub invariant-loop-buffer : goal.invariant-loop-buffer
invariant-loop-buffer g l = record {
  never_falls : g.S.Source.faults l.fn.source ≤ g.S.Source.faults l.source;
  within : length l.input.items ≤ 2 ^ 20 + 1;
  taken : Consumes (g.S.Source.left l.fn.source) (g.S.Source.left l.source) l.input.items;
}

abbrev pub decreases-loop-buffer : goal.decreases-loop-buffer
decreases-loop-buffer g l = 2 ^ 20 + 1 - length l.input.items

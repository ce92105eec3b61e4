use Rattle.std.proofs.Common.{◌≡◌, take}
use Rattle.std.specs.Prelude.{None}
use Rattle.cg_arena.specs.Verdict.{noted}
use Rattle.cg_arena.proofs.verdicts.find.Given as goal

abbrev pub invariant-loop-entry : goal.invariant-loop-entry
invariant-loop-entry l = noted (take l.entry-index l.entries) l.index ≡ None

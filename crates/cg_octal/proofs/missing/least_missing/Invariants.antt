use Rattle.std.proofs.Common.{◌-◌, length}
use Rattle.cg_octal.proofs.Searching.{Searched}
use Rattle.cg_octal.proofs.missing.least_missing.Given as goal

abbrev pub invariant-loop-least : goal.invariant-loop-least
invariant-loop-least l = Searched l.list l.least

abbrev pub decreases-loop-least : goal.decreases-loop-least
decreases-loop-least l = length l.list - l.least

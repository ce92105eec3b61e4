use Rattle.std.proofs.Common.{◌+◌, length, take}
use Rattle.cg_octal.proofs.Marks.{Marked}
use Rattle.cg_octal.proofs.missing.marks_of.Given as goal

abbrev pub invariant-loop-number : goal.invariant-loop-number
invariant-loop-number l = Marked (take l.number-index l.list) (length l.list + 1) l.marks.items

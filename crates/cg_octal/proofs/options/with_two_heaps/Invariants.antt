use Rattle.std.proofs.Common.{suc}
use Rattle.cg_octal.specs.Found.{Adds}
use Rattle.cg_octal.specs.Heaps.{heap, two_heaps}
use Rattle.cg_octal.proofs.options.with_two_heaps.Given as goal

abbrev pub invariant-loop-tokens : goal.invariant-loop-tokens
invariant-loop-tokens l =
    Adds (suc l.left) (two_heaps (heap l.digits) l.left l.tokens) l.fn.found.items l.all.items

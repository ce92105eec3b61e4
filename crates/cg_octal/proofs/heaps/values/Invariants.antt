use Rattle.cg_octal.proofs.HeapValues.{Made}
use Rattle.cg_octal.proofs.heaps.values.Given as goal

abbrev pub invariant-loop : goal.invariant-loop
invariant-loop l = Made l.octal.digits l.items.items l.counter

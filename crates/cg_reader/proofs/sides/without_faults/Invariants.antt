use Rattle.std.proofs.Common.{◌≡◌, map}
use Rattle.cg_reader.specs.Views.{found_of, sound}
use Rattle.cg_reader.proofs.sides.without_faults.Given as goal

abbrev pub invariant-loop-expr : goal.invariant-loop-expr
invariant-loop-expr l = map found_of l.founds.items ≡ map sound l.yielded

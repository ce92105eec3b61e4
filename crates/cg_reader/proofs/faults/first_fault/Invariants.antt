use Rattle.std.proofs.Common.{◌≡◌, length, map}
use Rattle.cg_grammar.specs.Braces.{side_fault}
use Rattle.cg_reader.specs.Views.{found_of}
use Rattle.cg_reader.proofs.faults.first_fault.Given as goal

abbrev pub invariant-loop-first : goal.invariant-loop-first
invariant-loop-first l = side_fault (map found_of l.rest) ≡ side_fault (map found_of l.fn.founds)

abbrev pub decreases-loop-first : goal.decreases-loop-first
decreases-loop-first l = length l.rest

use Rattle.std.proofs.Common.{◌≡◌, false, length, map}
use Rattle.cg_grammar.specs.Braces.{repeats}
use Rattle.cg_reader.specs.Views.{run_length}
use Rattle.cg_reader.proofs.faults.repeated.Given as goal

abbrev pub invariant-loop-row : goal.invariant-loop-row
invariant-loop-row l = repeats l.bars l.seen (map run_length l.rest) ≡ repeats l.bars false (map run_length l.fn.rows)

abbrev pub decreases-loop-row : goal.decreases-loop-row
decreases-loop-row l = length l.rest

use Rattle.std.proofs.Common.{◌≡◌, ◌≤◌, length}
use Rattle.cg_reading.specs.Readers.{skipped}
use Rattle.cg_grammar.specs.Grammar.{printable}
use Rattle.cg_reader.proofs.named.after_printable.Given as goal

abbrev pub invariant-loop-first : goal.invariant-loop-first
invariant-loop-first l = record { same : skipped printable l.rest ≡ skipped printable l.fn.bytes; shorter : length l.rest ≤ length l.fn.bytes }

abbrev pub decreases-loop-first : goal.decreases-loop-first
decreases-loop-first l = length l.rest

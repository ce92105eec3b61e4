use Rattle.std.proofs.Common.{◌≡◌, ◌≤◌, length}
use Rattle.cg_reading.specs.Readers.{most_skipped}
use Rattle.cg_grammar.specs.Values.{letter_or_digit}
use Rattle.cg_reader.proofs.names.after_letters.Given as goal

abbrev pub invariant-loop-first : goal.invariant-loop-first
invariant-loop-first l = record {
  same : most_skipped letter_or_digit l.room l.rest ≡ most_skipped letter_or_digit l.fn.most l.fn.bytes;
  shorter : length l.rest ≤ length l.fn.bytes;
}

abbrev pub decreases-loop-first : goal.decreases-loop-first
decreases-loop-first l = length l.rest

use Rattle.std.proofs.Common.{◌≡◌, ◌≤◌, drop, ℕ, length}
use Rattle.cg_reading.specs.Readers.{word_at}
use Rattle.cg_reading.proofs.tokens.after_word.Given as goal

abbrev pub invariant-loop-want : goal.invariant-loop-want
invariant-loop-want l = record {
  same : (end : ℕ) → word_at (drop l.want-index l.word) (tt {0}) end l.rest ≡ word_at l.word (tt {0}) end l.fn.bytes;
  shorter : length l.rest ≤ length l.fn.bytes;
}

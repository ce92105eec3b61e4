use Rattle.std.proofs.Common.{◌≡◌, ◌≤◌, ℕ, length, drop, Err}
use Rattle.cg_reading.specs.Words.{either_read, among_at, words_of}
use Rattle.cg_reading.proofs.tokens.word_of.Given as goal

abbrev pub invariant-loop-entry : goal.invariant-loop-entry
invariant-loop-entry g l = record {
  same : (end : ℕ) → either_read (Err l.left) (among_at (words_of (drop l.entry-index l.table)) end l.bytes) ≡ among_at (words_of l.table) end l.bytes;
  bound : l.left ≤ length l.bytes;
}

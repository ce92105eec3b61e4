use Rattle.std.proofs.Common.{◌≡◌, ◌≤◌, length}
use Rattle.cg_reading.specs.Readers.{skipped}
use Rattle.cg_strip.specs.Grammar.{symbol}
use Rattle.cg_strip.proofs.tokens.after_symbols.Given as goal

abbrev pub invariant-loop-first : goal.invariant-loop-first
invariant-loop-first l = record { same : skipped symbol l.rest ≡ skipped symbol l.fn.bytes; shorter : length l.rest ≤ length l.fn.bytes }

abbrev pub decreases-loop-first : goal.decreases-loop-first
decreases-loop-first l = length l.rest

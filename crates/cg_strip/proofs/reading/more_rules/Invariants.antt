use Rattle.std.proofs.Common.{◌≡◌, ◌≤◌, length}
use Rattle.cg_reading.specs.Readers.{behind_these}
use Rattle.cg_strip.specs.Grammar.{semicolon}
use Rattle.cg_strip.specs.Reading.{next_rule_at}
use Rattle.cg_strip.proofs.reading.more_rules.Given as goal

abbrev pub invariant-loop-first : goal.invariant-loop-first
invariant-loop-first l = record {
  shorter : length l.rest ≤ length l.fn.bytes;
  same : behind_these semicolon next_rule_at l.rules.items l.text_end l.rest ≡ behind_these semicolon next_rule_at l.fn.front.items l.text_end l.fn.bytes;
}

abbrev pub decreases-loop-first : goal.decreases-loop-first
decreases-loop-first l = length l.rest

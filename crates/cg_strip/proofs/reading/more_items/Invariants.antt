use Rattle.std.proofs.Common.{◌≡◌, ◌≤◌, length}
use Rattle.cg_reading.specs.Readers.{many_at}
use Rattle.cg_strip.specs.Grammar.{semicolon}
use Rattle.cg_reading.specs.Turns.{turns_behind}
use Rattle.cg_strip.specs.Reading.{turn_at, next_rule_at}
use Rattle.cg_strip.proofs.reading.more_items.Given as goal

abbrev pub invariant-loop-first : goal.invariant-loop-first
invariant-loop-first l = record {
  shorter : length l.rest ≤ length l.fn.bytes;
  same : turns_behind semicolon turn_at (many_at semicolon next_rule_at) l.weights.items l.text_end l.rest ≡ turns_behind semicolon turn_at (many_at semicolon
      next_rule_at) l.fn.front.items l.text_end l.fn.bytes;
}

abbrev pub decreases-loop-first : goal.decreases-loop-first
decreases-loop-first l = length l.rest

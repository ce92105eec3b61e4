use Rattle.std.proofs.Common.{◌≡◌, ◌+◌, ◌*◌, ◌<◌, ◌≤◌, ◌∷◌, length, map}
use Rattle.cg_reading.specs.Readers.{behind_these}
use Rattle.cg_reading.specs.Tokens.{only}
use Rattle.cg_grammar.specs.Grammar.{bar}
use Rattle.cg_grammar.specs.Reading.{special_at, sum_at, more_terms_at, item_list_at, next_item_at, row_at, row_list_at}
use Rattle.cg_query.specs.Trees.{terms_of}
use Rattle.cg_reader.specs.Views.{row_of, side_found}
use Rattle.cg_reader.proofs.line_reader.LineReader.+items.Given as goal

-- each call opens a bracket, or goes down this order

abbrev pub decreases-bracket : goal.decreases-bracket
decreases-bracket l = 32 * l.brackets + 16

abbrev pub decreases-braces : goal.decreases-braces
decreases-braces l = 32 * l.brackets + 15

abbrev pub decreases-rows : goal.decreases-rows
decreases-rows l = 32 * l.brackets + 14

abbrev pub decreases-row : goal.decreases-row
decreases-row l = 32 * l.brackets + 13

abbrev pub decreases-side : goal.decreases-side
decreases-side l = 32 * l.brackets + 12

abbrev pub decreases-items : goal.decreases-items
decreases-items l = 32 * l.brackets + 11

abbrev pub decreases-sum : goal.decreases-sum
decreases-sum l = 32 * l.brackets + 10

abbrev pub decreases-more_terms : goal.decreases-more_terms
decreases-more_terms l = 32 * l.brackets + 9

abbrev pub decreases-term : goal.decreases-term
decreases-term l = 32 * l.brackets + 8

abbrev pub decreases-minus_body : goal.decreases-minus_body
decreases-minus_body l = 32 * l.brackets + 7

abbrev pub decreases-unsigned_term : goal.decreases-unsigned_term
decreases-unsigned_term l = 32 * l.brackets + 6

abbrev pub decreases-counted_term : goal.decreases-counted_term
decreases-counted_term l = 32 * l.brackets + 5

abbrev pub decreases-counted_multiple : goal.decreases-counted_multiple
decreases-counted_multiple l = 32 * l.brackets + 4

abbrev pub decreases-times : goal.decreases-times
decreases-times l = 32 * l.brackets + 3

abbrev pub decreases-uncounted_term : goal.decreases-uncounted_term
decreases-uncounted_term l = 32 * l.brackets + 3

abbrev pub decreases-primary : goal.decreases-primary
decreases-primary l = 32 * l.brackets + 2

abbrev pub decreases-special : goal.decreases-special
decreases-special l = 32 * l.brackets + 1

abbrev pub decreases-bare_special : goal.decreases-bare_special
decreases-bare_special l = 32 * l.brackets + 0

-- ---- loops: what was read, and what is read of the rest, is what is read of all the bytes

abbrev pub invariant-more_terms-loop-sign : goal.invariant-more_terms-loop-sign
invariant-more_terms-loop-sign l = record {
  shorter : length l.rest ≤ length l.fn.bytes;
  same : more_terms_at l.self.format l.brackets (terms_of l.terms.items) l.fault l.self.line_end l.rest
      ≡ more_terms_at l.self.format l.brackets (terms_of l.fn.terms.items) l.fn.fault l.self.line_end l.fn.bytes;
}

abbrev pub decreases-more_terms-loop-sign : goal.decreases-more_terms-loop-sign
decreases-more_terms-loop-sign l = length l.rest

abbrev pub invariant-items-loop-comma : goal.invariant-items-loop-comma
invariant-items-loop-comma l =
    let expr = sum_at (special_at l.self.format l.brackets) in
    record {
      shorter : length l.rest < length l.fn.bytes;
      same : behind_these (only 44) (next_item_at expr) (side_found l.items) l.self.line_end l.rest ≡ item_list_at expr l.self.line_end l.fn.bytes;
    }

abbrev pub decreases-items-loop-comma : goal.decreases-items-loop-comma
decreases-items-loop-comma l = length l.rest

abbrev pub invariant-rows-loop-bar : goal.invariant-rows-loop-bar
invariant-rows-loop-bar l =
    let expr = sum_at (special_at l.self.format l.brackets) in
    record {
      shorter : length l.rest < length l.fn.bytes;
      same : behind_these bar (row_at expr) (row_of l.first ∷ map row_of l.more.items) l.self.line_end l.rest ≡ row_list_at expr l.self.line_end l.fn.bytes;
    }

abbrev pub decreases-rows-loop-bar : goal.decreases-rows-loop-bar
decreases-rows-loop-bar l = length l.rest

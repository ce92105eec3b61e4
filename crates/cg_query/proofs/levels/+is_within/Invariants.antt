use Rattle.std.proofs.Common.{◌+◌, ◌*◌, ◌≤◌, take}
use Rattle.cg_query.specs.Tree.{trees_from, terms_from}
use Rattle.cg_query.specs.Trees.{trees_of, terms_of}
use Rattle.cg_query.specs.Heights.{heights, term_heights}
use Rattle.cg_query.proofs.levels.+is_within.Given as goal

abbrev pub decreases-is_within : goal.decreases-is_within
decreases-is_within l = 4 * l.levels

abbrev pub decreases-side_within : goal.decreases-side_within
decreases-side_within l = 4 * l.levels + 1

abbrev pub decreases-terms_within : goal.decreases-terms_within
decreases-terms_within l = 4 * l.levels + 1

abbrev pub decreases-sides_within : goal.decreases-sides_within
decreases-sides_within l = 4 * l.levels + 2

abbrev pub decreases-parts_within : goal.decreases-parts_within
decreases-parts_within l = 4 * l.levels + 3

abbrev pub invariant-side_within-loop-expr : goal.invariant-side_within-loop-expr
invariant-side_within-loop-expr l = heights (trees_from (trees_of (take l.expr-index l.expr-items))) ≤ l.levels

abbrev pub invariant-terms_within-loop-term : goal.invariant-terms_within-loop-term
invariant-terms_within-loop-term l = term_heights (terms_from (terms_of (take l.term-index l.term-items))) ≤ l.levels

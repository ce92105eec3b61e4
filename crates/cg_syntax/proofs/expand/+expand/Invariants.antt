use Rattle.std.proofs.Common.{◌≡◌, ◌+◌, ◌*◌, take, map}
use Rattle.cg_syntax.specs.Bound.{bindings_in}
use Rattle.cg_syntax.specs.Naming.{expanded}
use Rattle.cg_query.specs.Tree.{terms_from, trees_from}
use Rattle.cg_query.specs.Trees.{tree_of, trees_in, trees_of, terms_in, terms_of}
use Rattle.cg_syntax.proofs.ExpandSteps.{expanded_term, room_of}
use Rattle.cg_query.proofs.Walk.{size, sizes, term_sizes}
use Rattle.cg_syntax.proofs.expand.+expand.Given as goal

-- what a name is bound to is no larger than all lines, and with no line nothing is bound

abbrev pub decreases-expand : goal.decreases-expand
decreases-expand l = 4 * (room_of l.sheet.now.lines.items + size (tree_of l.expr.now))

abbrev pub decreases-copy : goal.decreases-copy
decreases-copy l = 4 * size (tree_of l.expr.now) + 1

abbrev pub decreases-expand_use : goal.decreases-expand_use
decreases-expand_use l = 4 * room_of l.sheet.now.lines.items + 3

abbrev pub decreases-expand_side : goal.decreases-expand_side
decreases-expand_side l = 4 * (room_of l.sheet.now.lines.items + sizes (trees_from (trees_in l.exprs.now))) + 1

abbrev pub decreases-expand_terms : goal.decreases-expand_terms
decreases-expand_terms l = 4 * (room_of l.sheet.now.lines.items + term_sizes (terms_from (terms_in l.terms.now))) + 1

abbrev pub invariant-expand_side-loop-expr : goal.invariant-expand_side-loop-expr
invariant-expand_side-loop-expr l =
    trees_of l.items.items ≡ map (expanded (bindings_in l.fn.sheet)) (trees_of (take l.expr-index l.expr-items))

abbrev pub invariant-expand_terms-loop-term : goal.invariant-expand_terms-loop-term
invariant-expand_terms-loop-term l =
    terms_of l.items.items ≡ map (expanded_term (bindings_in l.fn.sheet)) (terms_of (take l.term-index l.term-items))

use Rattle.std.proofs.Common.{◌≡◌, ◌+◌, ◌*◌, ◌++◌, take}
use Rattle.cg_query.specs.Tree.{trees_from, terms_from}
use Rattle.cg_query.specs.Trees.{tree_of, trees_in, trees_of, terms_in, terms_of}
use Rattle.cg_grammar.specs.Written.{more_terms, more_texts}
use Rattle.cg_query.proofs.Walk.{size, sizes, term_sizes}
use Rattle.cg_writer.proofs.write_expr.+push_expr.Given as goal

abbrev pub decreases-push_expr : goal.decreases-push_expr
decreases-push_expr l = 5 * size (tree_of l.expr.now)

abbrev pub decreases-push_enclosed : goal.decreases-push_enclosed
decreases-push_enclosed l = 5 * size (tree_of l.expr.now) + 1

abbrev pub decreases-push_operand : goal.decreases-push_operand
decreases-push_operand l = 5 * size (tree_of l.expr.now) + 2

abbrev pub decreases-push_negative : goal.decreases-push_negative
decreases-push_negative l = 5 * size (tree_of l.inner.now) + 3

abbrev pub decreases-push_multiple : goal.decreases-push_multiple
decreases-push_multiple l = 5 * size (tree_of l.inner.now) + 3

abbrev pub decreases-push_more : goal.decreases-push_more
decreases-push_more l = 5 * sizes (trees_from (trees_of l.exprs.now)) + 1

abbrev pub decreases-push_side : goal.decreases-push_side
decreases-push_side l = 5 * sizes (trees_from (trees_in l.exprs.now)) + 2

abbrev pub decreases-push_braces : goal.decreases-push_braces
decreases-push_braces l = 5 * (sizes (trees_from (trees_in l.lefts.now)) + sizes (trees_from (trees_in l.rights.now))) + 3

abbrev pub decreases-push_terms : goal.decreases-push_terms
decreases-push_terms l = 5 * term_sizes (terms_from (terms_of l.terms.now)) + 3

abbrev pub decreases-push_sum : goal.decreases-push_sum
decreases-push_sum l = 5 * term_sizes (terms_from (terms_in l.terms.now)) + 4

abbrev pub invariant-push_more-loop-expr : goal.invariant-push_more-loop-expr
invariant-push_more-loop-expr l =
    l.text.items ≡ l.fn.text.items ++ more_texts (trees_from (trees_of (take l.expr-index l.exprs)))

abbrev pub invariant-push_terms-loop-term : goal.invariant-push_terms-loop-term
invariant-push_terms-loop-term l =
    l.text.items ≡ l.fn.text.items ++ more_terms (terms_from (terms_of (take l.term-index l.terms)))

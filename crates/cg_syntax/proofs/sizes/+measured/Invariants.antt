use Rattle.std.proofs.Common.{◌+◌, ◌*◌, take}
use Rattle.cg_syntax.specs.Bound.{IsSizeOf, bindings_in}
use Rattle.cg_query.specs.Tree.{terms_from, trees_from}
use Rattle.cg_query.specs.Trees.{tree_of, trees_in, trees_of, terms_in, terms_of}
use Rattle.cg_syntax.proofs.SizeSteps.{trees_of_terms}
use Rattle.cg_query.proofs.Walk.{size, sizes, term_sizes}
use Rattle.cg_syntax.proofs.sizes.+measured.Given as goal

abbrev pub decreases-measured : goal.decreases-measured
decreases-measured l = 4 * size (tree_of l.expr.now)

abbrev pub decreases-sides_size : goal.decreases-sides_size
decreases-sides_size l = 4 * (sizes (trees_from (trees_in l.lefts.now)) + sizes (trees_from (trees_in l.rights.now))) + 2

abbrev pub decreases-side_size : goal.decreases-side_size
decreases-side_size l = 4 * sizes (trees_from (trees_in l.exprs.now)) + 1

abbrev pub decreases-terms_size : goal.decreases-terms_size
decreases-terms_size l = 4 * term_sizes (terms_from (terms_in l.terms.now)) + 1

abbrev pub invariant-side_size-loop-expr : goal.invariant-side_size-loop-expr
invariant-side_size-loop-expr l = IsSizeOf (bindings_in l.fn.sheet) (trees_of (take l.expr-index l.expr-items)) l.all

abbrev pub invariant-terms_size-loop-term : goal.invariant-terms_size-loop-term
invariant-terms_size-loop-term l = IsSizeOf (bindings_in l.fn.sheet) (trees_of_terms (terms_of (take l.term-index l.term-items))) l.all

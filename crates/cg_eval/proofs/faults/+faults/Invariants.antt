use Rattle.std.proofs.Common.{◌≡◌, ◌+◌, ◌*◌, take}
use Rattle.cg_query.specs.Tree.{trees_from, terms_from}
use Rattle.cg_query.specs.Trees.{tree_of, trees_in, trees_of, terms_in, terms_of}
use Rattle.cg_eval.specs.Faults.{fault_in_all, fault_in_terms}
use Rattle.cg_query.specs.Heights.{height, heights, term_heights}
use Rattle.cg_eval.proofs.faults.+faults.Given as goal

abbrev pub decreases-fault_in : goal.decreases-fault_in
decreases-fault_in l = 2 * height (tree_of l.expr.now)

abbrev pub decreases-fault_in_all : goal.decreases-fault_in_all
decreases-fault_in_all l = 2 * heights (trees_from (trees_in l.exprs.now)) + 1

abbrev pub decreases-fault_in_terms : goal.decreases-fault_in_terms
decreases-fault_in_terms l = 2 * term_heights (terms_from (terms_in l.terms.now)) + 1

abbrev pub invariant-fault_in_all-loop-expr : goal.invariant-fault_in_all-loop-expr
invariant-fault_in_all-loop-expr l = l.found ≡ fault_in_all (trees_from (trees_of (take l.expr-index l.expr-items)))

abbrev pub invariant-fault_in_terms-loop-term : goal.invariant-fault_in_terms-loop-term
invariant-fault_in_terms-loop-term l = l.found ≡ fault_in_terms (terms_from (terms_of (take l.term-index l.term-items)))

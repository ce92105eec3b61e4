use Rattle.std.proofs.Common.{◌+◌, ◌*◌, max, take}
use Rattle.cg_canon.specs.Works.{work_state}
use Rattle.cg_query.specs.Tree.{trees_from, terms_from}
use Rattle.cg_query.specs.Trees.{tree_of, trees_in, trees_of, terms_in, terms_of}
use Rattle.cg_eval.proofs.ListSteps.{AllMade, AreAdded}
use Rattle.cg_query.specs.Heights.{height, heights, term_heights}
use Rattle.cg_eval.proofs.evaluate.+evaluate.Given as goal

abbrev pub decreases-evaluate : goal.decreases-evaluate
decreases-evaluate g l = 5 * height (tree_of l.expr.now)

abbrev pub decreases-evaluate_all : goal.decreases-evaluate_all
decreases-evaluate_all g l = 5 * heights (trees_from (trees_in l.exprs.now)) + 1

abbrev pub decreases-braces : goal.decreases-braces
decreases-braces g l = 5 * max (heights (trees_from (trees_in l.lefts.now))) (heights (trees_from (trees_in l.rights.now))) + 2

abbrev pub decreases-minus : goal.decreases-minus
decreases-minus g l = 5 * height (tree_of l.expr.now) + 1

abbrev pub decreases-times : goal.decreases-times
decreases-times g l = 5 * height (tree_of l.expr.now) + 1

abbrev pub decreases-signed : goal.decreases-signed
decreases-signed g l = 5 * height (tree_of l.expr.now) + 1

abbrev pub decreases-added : goal.decreases-added
decreases-added g l = 5 * height (tree_of l.expr.now) + 2

abbrev pub decreases-further : goal.decreases-further
decreases-further g l = 5 * term_heights (terms_from (terms_of l.terms.now)) + 3

abbrev pub decreases-total : goal.decreases-total
decreases-total g l = 5 * term_heights (terms_from (terms_in l.terms.now)) + 4

abbrev pub invariant-evaluate_all-loop-expr : goal.invariant-evaluate_all-loop-expr
invariant-evaluate_all-loop-expr g l =
    AllMade (work_state g.S.CellStore.state l.fn.work) (work_state g.S.CellStore.state l.work) (trees_of
    (take l.expr-index l.expr-items)) l.handles.items

abbrev pub invariant-further-loop-term : goal.invariant-further-loop-term
invariant-further-loop-term g l =
    AreAdded (work_state g.S.CellStore.state l.fn.work) (work_state g.S.CellStore.state l.work) l.fn.start l.so_far
    (terms_of (take l.term-index l.terms))

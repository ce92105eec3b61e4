use Rattle.std.proofs.Common.{◌≡◌, Bool, IfOk, Option, rules, ap, sym, ◌∙◌, subst}
use Rattle.cg_eval.specs.declared.fault.GameFault.{GameFault}
use Rattle.cg_query.specs.Trees.{tree_of, trees_in, term_of, terms_in}
use Rattle.cg_query.specs.Tree.{Tree, trees_from}
use Rattle.cg_query.specs.declared.expr.Expr.{Expr}
use Rattle.cg_query.specs.declared.expr.Expr.TheVariants as expr
use Rattle.cg_query.proofs.TreeOf.{number_tree, ups_tree_of, nimber_tree, switch_tree, tiny_tree, negative_tree, multiple_tree, sum_tree, game_tree}
use Rattle.cg_query.proofs.TreeOf.{octal_tree, term_tree, used_tree}
use Rattle.cg_eval.specs.Faults.{fault_in, fault_in_all, first_of_two}
use Rattle.cg_eval.proofs.FaultParts.{all-one_more, fault_of_braces, fault_of_tree, terms-one_more}
use Rattle.cg_query.specs.Heights.{height}
use Rattle.cg_eval.proofs.Levels.{height_of_braces, height_of_negative, height_of_multiple, height_of_sum, height_of_item, height_of_term}
use Rattle.cg_eval.proofs.faults.+faults.Goals as goal

-- ---- fault_in

pub fault_in-fault_in_all-requires : goal.fault_in-fault_in_all-requires
fault_in-fault_in_all-requires t c =
    let b = height_of_braces c.args.expr.now c.in-Braces.lefts c.in-Braces.rights c.in-Braces.is in
    search rules

pub fault_in-fault_in_all-requires-in-Braces : goal.fault_in-fault_in_all-requires-in-Braces
fault_in-fault_in_all-requires-in-Braces t c =
    let b = height_of_braces c.args.expr.now c.in-Braces.lefts c.in-Braces.rights c.in-Braces.is in
    search rules

pub fault_in-fault_in-requires : goal.fault_in-fault_in-requires
fault_in-fault_in-requires t c =
    let b = height_of_negative c.args.expr.now c.in-Negative.inner c.in-Negative.is in
    search rules

pub fault_in-fault_in-requires-in-Multiple : goal.fault_in-fault_in-requires-in-Multiple
fault_in-fault_in-requires-in-Multiple t c =
    let b = height_of_multiple c.args.expr.now c.in-Multiple.field-0 c.in-Multiple.inner c.in-Multiple.is in
    search rules

pub fault_in-fault_in_terms-requires : goal.fault_in-fault_in_terms-requires
fault_in-fault_in_terms-requires t c =
    let b = height_of_sum c.args.expr.now c.in-Sum.terms c.in-Sum.is in
    search rules

pub fault_in-returns-in-Number : goal.fault_in-returns-in-Number
fault_in-returns-in-Number t c = sym (fault_of_tree c.args.expr.now
    (expr.Number c.in-Number.negative c.in-Number.num c.in-Number.den) c.in-Number.is
    (number_tree c.in-Number.negative c.in-Number.num c.in-Number.den))

pub fault_in-returns-in-Name : goal.fault_in-returns-in-Name
fault_in-returns-in-Name t c = sym (fault_of_tree c.args.expr.now (expr.Name c.in-Name.text c.in-Name.column) c.in-Name.is
    (used_tree c.in-Name.text c.in-Name.column))

pub fault_in-returns-in-Ups : goal.fault_in-returns-in-Ups
fault_in-returns-in-Ups t c = sym (fault_of_tree c.args.expr.now (expr.Ups c.in-Ups.down c.in-Ups.count) c.in-Ups.is
    (ups_tree_of c.in-Ups.down c.in-Ups.count))

pub fault_in-returns-in-Nimber : goal.fault_in-returns-in-Nimber
fault_in-returns-in-Nimber t c = sym (fault_of_tree c.args.expr.now (expr.Nimber c.in-Nimber.field-0) c.in-Nimber.is
    (nimber_tree c.in-Nimber.field-0))

pub fault_in-returns-in-Switch : goal.fault_in-returns-in-Switch
fault_in-returns-in-Switch t c = sym (fault_of_tree c.args.expr.now
    (expr.Switch c.in-Switch.num c.in-Switch.den) c.in-Switch.is (switch_tree c.in-Switch.num c.in-Switch.den))

pub fault_in-returns-in-Tiny : goal.fault_in-returns-in-Tiny
fault_in-returns-in-Tiny t c = sym (fault_of_tree c.args.expr.now
    (expr.Tiny c.in-Tiny.miny c.in-Tiny.num c.in-Tiny.den) c.in-Tiny.is
    (tiny_tree c.in-Tiny.miny c.in-Tiny.num c.in-Tiny.den))

pub fault_in-returns-in_ok-second-in-Braces : goal.fault_in-returns-in_ok-second-in-Braces
fault_in-returns-in_ok-second-in-Braces t c =
    c.first_of_two.ensures
    ∙ ap (λ z. first_of_two z c.in_ok-second-in-Braces.second) c.in_ok-first-in-Braces.ensures
    ∙ ap (first_of_two (fault_in_all (trees_from (trees_in c.in-Braces.lefts)))) c.in_ok-second-in-Braces.ensures
    ∙ sym (fault_of_braces c.args.expr.now c.in-Braces.lefts c.in-Braces.rights c.in-Braces.is)

pub fault_in-returns-in-Negative : goal.fault_in-returns-in-Negative
fault_in-returns-in-Negative t c =
    let b : fault_in (tree_of c.args.expr.now) ≡ fault_in (tree_of c.in-Negative.inner.value) = fault_of_tree
    c.args.expr.now (expr.Negative c.in-Negative.inner) c.in-Negative.is (negative_tree c.in-Negative.inner) in
    let d = ap (λ (x : Expr). fault_in (tree_of x)) c.deref.ensures in
    let P : Option GameFault → Type 0 = λ z. IfOk c.fault_in.result (λ found. found ≡ z) in
    subst P (d ∙ sym b) c.fault_in.ensures

pub fault_in-returns-in-Multiple : goal.fault_in-returns-in-Multiple
fault_in-returns-in-Multiple t c =
    let b : fault_in (tree_of c.args.expr.now) ≡ fault_in (tree_of c.in-Multiple.inner.value) = fault_of_tree
    c.args.expr.now (expr.Multiple c.in-Multiple.field-0 c.in-Multiple.inner) c.in-Multiple.is
    (multiple_tree c.in-Multiple.field-0 c.in-Multiple.inner) in
    let d = ap (λ (x : Expr). fault_in (tree_of x)) c.deref-in-Multiple.ensures in
    let P : Option GameFault → Type 0 = λ z. IfOk c.fault_in-in-Multiple.result (λ found. found ≡ z) in
    subst P (d ∙ sym b) c.fault_in-in-Multiple.ensures

pub fault_in-returns-in-Sum : goal.fault_in-returns-in-Sum
fault_in-returns-in-Sum t c =
    let b = fault_of_tree c.args.expr.now (expr.Sum c.in-Sum.terms) c.in-Sum.is (sum_tree c.in-Sum.terms) in
    let P : Option GameFault → Type 0 = λ z. IfOk c.fault_in_terms.result (λ found. found ≡ z) in
    subst P (sym b) c.fault_in_terms.ensures

pub fault_in-returns-in-Game : goal.fault_in-returns-in-Game
fault_in-returns-in-Game t c =
    let b = fault_of_tree c.args.expr.now (expr.Game c.in-Game.kind c.in-Game.rules c.in-Game.board) c.in-Game.is
    (game_tree c.in-Game.kind c.in-Game.rules c.in-Game.board) in
    let P : Option GameFault → Type 0 = λ z. IfOk c.board_fault.result (λ found. found ≡ z) in
    subst P (sym b) c.board_fault.ensures

pub fault_in-returns-in-Octal : goal.fault_in-returns-in-Octal
fault_in-returns-in-Octal t c =
    let b = fault_of_tree c.args.expr.now (expr.Octal c.in-Octal.code c.in-Octal.heap) c.in-Octal.is
    (octal_tree c.in-Octal.code c.in-Octal.heap) in
    let P : Option GameFault → Type 0 = λ z. IfOk c.heap_fault.result (λ found. found ≡ z) in
    subst P (sym b) c.heap_fault.ensures

-- ---- fault_in_all

pub fault_in_all-fault_in-requires : goal.fault_in_all-fault_in-requires
fault_in_all-fault_in-requires t c =
    let s = height_of_item c.as_slice-expr-items.result.now
    (trees_in c.args.exprs.now) c.loop-expr.expr-index c.expr-item.result c.as_slice-expr-items.ensures
    c.expr-item.is c.loop-expr-test.true in
    search rules

pub fault_in_all-loop-expr-preserved : goal.fault_in_all-loop-expr-preserved
fault_in_all-loop-expr-preserved t c = c.first_of_two-found.ensures ∙ all-one_more c.as_slice-expr-items.result.now
    c.loop-expr.expr-index c.expr-item.result c.loop-expr.found c.in_ok-more.more c.loop-expr-test.true c.expr-item.is
    c.loop-expr.invariant c.in_ok-more.ensures

-- ---- fault_in_terms

pub fault_in_terms-fault_in-requires : goal.fault_in_terms-fault_in-requires
fault_in_terms-fault_in-requires t c =
    let s = height_of_term c.as_slice-term-items.result.now
    (terms_in c.args.terms.now) c.loop-term.term-index c.term-item.result c.as_slice-term-items.ensures
    c.term-item.is c.loop-term-test.true in
    let e : height (tree_of c.term-item.result.expr) ≡ height (term_of c.term-item.result).1 = ap (λ (p : Bool
    × Tree). height p.1) (sym (term_tree c.term-item.result.minus c.term-item.result.expr)) in
    search rules

pub fault_in_terms-loop-term-preserved : goal.fault_in_terms-loop-term-preserved
fault_in_terms-loop-term-preserved t c = c.first_of_two-found.ensures ∙ terms-one_more c.as_slice-term-items.result.now
    c.loop-term.term-index c.term-item.result c.loop-term.found c.in_ok-more.more c.loop-term-test.true c.term-item.is
    c.loop-term.invariant c.in_ok-more.ensures

use Rattle.std.proofs.Common.{rules, ◌≡◌, ◌+◌, ap, sym, ◌∙◌, ℕ, List, [], ◌∷◌, ◌++◌, Bool, refl}
use Rattle.std.proofs.lemmas.List.{nil_from_length}
use Rattle.cg_query.specs.Tree.{Tree, terms_from}
use Rattle.cg_query.specs.Trees.{tree_of, trees_in, trees_of, term_of, terms_in, terms_of}
use Rattle.cg_grammar.specs.Written.{enclosed_text, is_braces, text_of}
use Rattle.cg_query.specs.declared.expr.Expr.{Expr}
use Rattle.cg_query.specs.declared.expr.Term.{Term}
use Rattle.cg_query.proofs.TreeOf.{term_tree}
use Rattle.cg_query.proofs.Walk.{size, term_sizes, size_of_braces, size_of_negative, size_of_multiple, size_of_sum, size_of_item, size_of_term}
use Rattle.cg_writer.proofs.WrittenSteps.{put_as, put_both, put_none, number_put, ups_put, nimber_put, switch_put, tiny_put, braces_put}
use Rattle.cg_writer.proofs.WrittenSteps.{negative_put, multiple_put, sum_put, game_put, octal_put, used_put, trees_split, terms_split}
use Rattle.cg_writer.proofs.WrittenSteps.{side_none, side_first, sum_none, sum_first, no_more_texts, no_more_terms, expr_next, term_next}
use Rattle.cg_writer.proofs.write_expr.+push_expr.Goals as goal

-- ---- measures

pub push_expr-push_braces-requires : goal.push_expr-push_braces-requires
push_expr-push_braces-requires t c =
    let b = size_of_braces c.args.expr.now c.in-Braces.lefts c.in-Braces.rights c.in-Braces.is in search rules

pub push_expr-push_negative-requires : goal.push_expr-push_negative-requires
push_expr-push_negative-requires t c =
    let b = size_of_negative c.args.expr.now c.in-Negative.inner c.in-Negative.is in
    let s : size (tree_of c.deref.result.now) ≡ size (tree_of c.in-Negative.inner.value) = ap (λ (x : Expr). size (tree_of x)) c.deref.ensures in
    search rules

pub push_expr-push_multiple-requires : goal.push_expr-push_multiple-requires
push_expr-push_multiple-requires t c =
    let b = size_of_multiple c.args.expr.now c.in-Multiple.count c.in-Multiple.inner c.in-Multiple.is in
    let s : size (tree_of c.deref-in-Multiple.result.now) ≡ size (tree_of c.in-Multiple.inner.value) = ap (λ (x : Expr). size (tree_of x))
    c.deref-in-Multiple.ensures in
    search rules

pub push_expr-push_sum-requires : goal.push_expr-push_sum-requires
push_expr-push_sum-requires t c = let b = size_of_sum c.args.expr.now c.in-Sum.terms c.in-Sum.is in search rules

pub push_more-push_expr-requires : goal.push_more-push_expr-requires
push_more-push_expr-requires t c =
    let s = size_of_item c.args.exprs.now (trees_of c.args.exprs.now) c.loop-expr.expr-index c.expr-item.result refl c.expr-item.is c.loop-expr-test.true in
    search rules

pub push_sum-push_operand-requires : goal.push_sum-push_operand-requires
push_sum-push_operand-requires t c =
    let split = terms_split c.as_slice.result.now (terms_in c.args.terms.now) c.in-Some.first.now c.in-Some.others.now c.as_slice.ensures
    c.in-Some.ensures.cases.0 in
    let s : term_sizes (terms_from (terms_in c.args.terms.now)) ≡ size (tree_of c.in-Some.first.now.expr) + term_sizes
    (terms_from (terms_of c.in-Some.others.now)) = ap (λ (z : List (Bool × Tree)). term_sizes (terms_from z)) split in
    search rules

pub push_terms-push_operand-requires : goal.push_terms-push_operand-requires
push_terms-push_operand-requires t c =
    let s = size_of_term c.args.terms.now (terms_of c.args.terms.now) c.loop-term.term-index c.term-item.result refl c.term-item.is c.loop-term-test.true in
    let e : size (tree_of c.term-item.result.expr) ≡ size (term_of c.term-item.result).1 = ap (λ (p : Bool × Tree). size p.1)
    (sym (term_tree c.term-item.result.minus c.term-item.result.expr)) in
    search rules

-- ---- forms

pub push_expr-returns-in-Number : goal.push_expr-returns-in-Number
push_expr-returns-in-Number t c = put_as c.push_number.result c.push_number.new.text.items c.args.text.now.items _ _
    (number_put c.args.expr.now c.in-Number.negative c.in-Number.num c.in-Number.den c.in-Number.is) c.push_number.ensures

pub push_expr-returns-in-Ups : goal.push_expr-returns-in-Ups
push_expr-returns-in-Ups t c = put_as c.push_ups.result c.push_ups.new.text.items c.args.text.now.items _ _
    (ups_put c.args.expr.now c.in-Ups.down c.in-Ups.count c.in-Ups.is) c.push_ups.ensures

pub push_expr-returns-in-Nimber : goal.push_expr-returns-in-Nimber
push_expr-returns-in-Nimber t c = put_as c.push_after.result c.push_after.new.text.items c.args.text.now.items _ _
    (nimber_put c.args.expr.now c.in-Nimber.count c.in-Nimber.is) c.push_after.ensures

pub push_expr-returns-in-Switch : goal.push_expr-returns-in-Switch
push_expr-returns-in-Switch t c = put_as c.push_switch.result c.push_switch.new.text.items c.args.text.now.items _ _
    (switch_put c.args.expr.now c.in-Switch.num c.in-Switch.den c.in-Switch.is) c.push_switch.ensures

pub push_expr-returns-in-Tiny : goal.push_expr-returns-in-Tiny
push_expr-returns-in-Tiny t c = put_as c.push_tiny.result c.push_tiny.new.text.items c.args.text.now.items _ _
    (tiny_put c.args.expr.now c.in-Tiny.miny c.in-Tiny.num c.in-Tiny.den c.in-Tiny.is) c.push_tiny.ensures

pub push_expr-returns-in-Braces : goal.push_expr-returns-in-Braces
push_expr-returns-in-Braces t c = put_as c.push_braces.result c.push_braces.new.text.items c.args.text.now.items _ _
    (braces_put c.args.expr.now c.in-Braces.lefts c.in-Braces.rights c.in-Braces.is) c.push_braces.ensures

pub push_expr-returns-in-Negative : goal.push_expr-returns-in-Negative
push_expr-returns-in-Negative t c = put_as c.push_negative.result c.push_negative.new.text.items c.args.text.now.items _ _
    (negative_put c.args.expr.now c.in-Negative.inner c.deref.result.now c.in-Negative.is c.deref.ensures) c.push_negative.ensures

pub push_expr-returns-in-Multiple : goal.push_expr-returns-in-Multiple
push_expr-returns-in-Multiple t c = put_as c.push_multiple.result c.push_multiple.new.text.items c.args.text.now.items _ _
    (multiple_put c.args.expr.now c.in-Multiple.count c.in-Multiple.inner c.deref-in-Multiple.result.now c.in-Multiple.is c.deref-in-Multiple.ensures)
    c.push_multiple.ensures

pub push_expr-returns-in-Sum : goal.push_expr-returns-in-Sum
push_expr-returns-in-Sum t c = put_as c.push_sum.result c.push_sum.new.text.items c.args.text.now.items _ _
    (sum_put c.args.expr.now c.in-Sum.terms c.in-Sum.is) c.push_sum.ensures

pub push_expr-returns-in-Game : goal.push_expr-returns-in-Game
push_expr-returns-in-Game t c = put_as c.push_game.result c.push_game.new.text.items c.args.text.now.items _ _
    (game_put c.args.expr.now c.in-Game.kind c.in-Game.rules c.in-Game.board c.in-Game.is) c.push_game.ensures

pub push_expr-returns-in-Octal : goal.push_expr-returns-in-Octal
push_expr-returns-in-Octal t c = put_as c.push_octal.result c.push_octal.new.text.items c.args.text.now.items _ _
    (octal_put c.args.expr.now c.in-Octal.code c.in-Octal.heap c.in-Octal.is) c.push_octal.ensures

pub push_expr-returns-in-Name : goal.push_expr-returns-in-Name
push_expr-returns-in-Name t c = put_as c.push_name.result c.push_name.new.text.items c.args.text.now.items _ _
    (used_put c.args.expr.now _ _ c.in-Name.is) c.push_name.ensures

-- ---- lists of expressions

pub push_more-loop-expr-init : goal.push_more-loop-expr-init
push_more-loop-expr-init t c = put_none c.args.text.now.items _ no_more_texts

pub push_more-loop-expr-preserved : goal.push_more-loop-expr-preserved
push_more-loop-expr-preserved t c =
    c.in_ok-push_expr.ensures ∙ ap (λ z. z ++ text_of (tree_of c.expr-item.result)) c.in_ok-push.ensures.items
    ∙ expr_next c.args.exprs.now c.loop-expr.expr-index c.expr-item.result c.args.text.now.items c.loop-expr.text.items c.loop-expr-test.true c.expr-item.is
    c.loop-expr.invariant

pub push_side-returns-in-None : goal.push_side-returns-in-None
push_side-returns-in-None t c = put_none c.args.text.now.items _ (side_none (trees_in c.args.exprs.now)
    (sym c.as_slice.ensures ∙ ap (λ (z : List Expr). trees_of z) (nil_from_length c.as_slice.result.now c.in-None.ensures.cases)))

pub push_side-returns-in_ok-push_expr-in-Some : goal.push_side-returns-in_ok-push_expr-in-Some
push_side-returns-in_ok-push_expr-in-Some t c =
    let split = trees_split c.as_slice.result.now (trees_in c.args.exprs.now) c.in-Some.first.now c.in-Some.others.now c.as_slice.ensures
    c.in-Some.ensures.cases.0 in
    put_both c.push_more.result c.args.text.now.items c.push_expr.new.text.items c.push_more.new.text.items _ _ _
    (side_first (trees_in c.args.exprs.now) (trees_of c.in-Some.others.now) (tree_of c.in-Some.first.now) split)
    c.in_ok-push_expr-in-Some.ensures c.push_more.ensures

-- ---- terms

pub push_terms-loop-term-init : goal.push_terms-loop-term-init
push_terms-loop-term-init t c = put_none c.args.text.now.items _ no_more_terms

pub push_terms-loop-term-preserved : goal.push_terms-loop-term-preserved
push_terms-loop-term-preserved t c =
    let operand : List ℕ = enclosed_text (is_braces (tree_of c.term-item.result.expr)) (text_of (tree_of c.term-item.result.expr)) in
    c.in_ok-push_operand.ensures
    ∙ ap (λ z. z ++ operand) (c.in_ok-push.ensures.items ∙ ap (λ (b : ℕ). c.loop-term.text.items ++ (b ∷ [])) c.sign.ensures)
    ∙ term_next c.args.terms.now c.loop-term.term-index c.term-item.result c.args.text.now.items c.loop-term.text.items c.loop-term-test.true c.term-item.is
    c.loop-term.invariant

pub push_sum-returns-in-None : goal.push_sum-returns-in-None
push_sum-returns-in-None t c = put_none c.args.text.now.items _ (sum_none (terms_in c.args.terms.now)
    (sym c.as_slice.ensures ∙ ap (λ (z : List Term). terms_of z) (nil_from_length c.as_slice.result.now c.in-None.ensures.cases)))

pub push_sum-returns-in_ok-push_operand-in-Some : goal.push_sum-returns-in_ok-push_operand-in-Some
push_sum-returns-in_ok-push_operand-in-Some t c =
    let split = terms_split c.as_slice.result.now (terms_in c.args.terms.now) c.in-Some.first.now c.in-Some.others.now c.as_slice.ensures
    c.in-Some.ensures.cases.0 in
    put_both c.push_terms.result c.args.text.now.items c.push_operand.new.text.items c.push_terms.new.text.items _ _ _
    (sum_first (terms_in c.args.terms.now) (terms_of c.in-Some.others.now) c.in-Some.first.now.minus (tree_of c.in-Some.first.now.expr) split)
    c.in_ok-push_operand-in-Some.ensures c.push_terms.ensures

use Rattle.std.proofs.Common.{rules, ◌≡◌, ap, sym, ◌∙◌, refl, ℕ, List, Bool, Option}
use Rattle.std.proofs.lemmas.Result.{IfOk-weaker}
use Rattle.cg_syntax.specs.Bound.{bindings_in}
use Rattle.cg_syntax.specs.Naming.{Bindings, bound_to, expanded, or_use}
use Rattle.cg_query.specs.Tree.{Tree, number, ups, nimber, switch, tiny, used}
use Rattle.cg_query.specs.Trees.{tree_of, trees_in, term_of, terms_in, terms_of}
use Rattle.cg_query.specs.declared.expr.Term.{Term}
use Rattle.cg_query.specs.declared.expr.Expr.{Expr}
use Rattle.cg_query.specs.declared.expr.Expr.TheVariants as expr
use Rattle.cg_query.proofs.TreeOf.{number_tree, ups_tree_of, nimber_tree, switch_tree, tiny_tree, used_tree, term_tree}
use Rattle.cg_query.proofs.Walk.{size, size_of_braces, size_of_negative, size_of_multiple, size_of_sum, size_of_item, size_of_term}
use Rattle.cg_syntax.proofs.Closed.{bare}
use Rattle.cg_syntax.proofs.ExpandSteps.{bound_within, braces_expanded, form_expanded, game_expanded, multiple_expanded}
use Rattle.cg_syntax.proofs.ExpandSteps.{negative_expanded, octal_expanded, room_of, sum_expanded, term_next, use_expanded}
use Rattle.cg_syntax.proofs.expand.+expand.Goals as goal

-- ---- measures

pub expand-expand_side-requires : goal.expand-expand_side-requires
expand-expand_side-requires t c = let b = size_of_braces c.args.expr.now c.in-Braces.lefts c.in-Braces.rights c.in-Braces.is in search rules

pub expand-expand_side-requires-in-Braces : goal.expand-expand_side-requires-in-Braces
expand-expand_side-requires-in-Braces t c = let b = size_of_braces c.args.expr.now c.in-Braces.lefts c.in-Braces.rights c.in-Braces.is in search rules

pub expand-expand-requires : goal.expand-expand-requires
expand-expand-requires t c =
    let b = size_of_negative c.args.expr.now c.in-Negative.inner c.in-Negative.is in
    let s : size (tree_of c.deref.result.now) ≡ size (tree_of c.in-Negative.inner.value) = ap (λ (x : Expr). size (tree_of x)) c.deref.ensures in
    search rules

pub expand-expand-requires-in-Multiple : goal.expand-expand-requires-in-Multiple
expand-expand-requires-in-Multiple t c =
    let b = size_of_multiple c.args.expr.now c.in-Multiple.count c.in-Multiple.inner c.in-Multiple.is in
    let s : size (tree_of c.deref-in-Multiple.result.now) ≡ size (tree_of c.in-Multiple.inner.value) = ap (λ (x : Expr). size (tree_of x))
    c.deref-in-Multiple.ensures in
    search rules

pub expand-expand_terms-requires : goal.expand-expand_terms-requires
expand-expand_terms-requires t c = let b = size_of_sum c.args.expr.now c.in-Sum.terms c.in-Sum.is in search rules

pub expand_side-expand-requires : goal.expand_side-expand-requires
expand_side-expand-requires t c =
    let s = size_of_item c.as_slice-expr-items.result.now (trees_in c.args.exprs.now) c.loop-expr.expr-index c.expr-item.result c.as_slice-expr-items.ensures
    c.expr-item.is c.loop-expr-test.true in
    search rules

pub expand_terms-expand-requires : goal.expand_terms-expand-requires
expand_terms-expand-requires t c =
    let s = size_of_term c.as_slice-term-items.result.now (terms_in c.args.terms.now) c.loop-term.term-index c.term-item.result c.as_slice-term-items.ensures
    c.term-item.is c.loop-term-test.true in
    let e : size (tree_of c.term-item.result.expr) ≡ size (term_of c.term-item.result).1 = ap (λ (p : Bool × Tree). size p.1)
    (sym (term_tree c.term-item.result.minus c.term-item.result.expr)) in
    search rules

pub copy-expand-requires : goal.copy-expand-requires
copy-expand-requires t c =
    let r : room_of c.new.result.lines.items ≡ 0 = ap room_of c.new.ensures.lines in
    search rules

pub expand_use-copy-requires : goal.expand_use-copy-requires
expand_use-copy-requires t c =
    let w = bound_within c.args.sheet.now.lines.items c.args.sheet.now.bound.items c.args.name.now c.in-Some.expr.now c.requires.bound
    (c.in-Some.ensures.bound ∙ ap (λ (z : List ℕ). bound_to (bindings_in c.args.sheet.now) z) c.as_slice.ensures) in
    search rules

-- ---- forms

pub expand-returns-in-Number : goal.expand-returns-in-Number
expand-returns-in-Number t c =
    let f = expr.Number c.in-Number.negative c.in-Number.num c.in-Number.den in
    let u = number c.in-Number.negative c.in-Number.num c.in-Number.den in
    let tree = number_tree c.in-Number.negative c.in-Number.num c.in-Number.den in
    form_expanded (bindings_in c.args.sheet.now) c.args.expr.now f f u u c.in-Number.is tree tree refl

pub expand-returns-in-Ups : goal.expand-returns-in-Ups
expand-returns-in-Ups t c =
    let f = expr.Ups c.in-Ups.down c.in-Ups.count in
    let u = ups c.in-Ups.down c.in-Ups.count in
    let tree = ups_tree_of c.in-Ups.down c.in-Ups.count in
    form_expanded (bindings_in c.args.sheet.now) c.args.expr.now f f u u c.in-Ups.is tree tree refl

pub expand-returns-in-Nimber : goal.expand-returns-in-Nimber
expand-returns-in-Nimber t c =
    let f = expr.Nimber c.in-Nimber.count in
    let u = nimber c.in-Nimber.count in
    let tree = nimber_tree c.in-Nimber.count in
    form_expanded (bindings_in c.args.sheet.now) c.args.expr.now f f u u c.in-Nimber.is tree tree refl

pub expand-returns-in-Switch : goal.expand-returns-in-Switch
expand-returns-in-Switch t c =
    let f = expr.Switch c.in-Switch.num c.in-Switch.den in
    let u = switch c.in-Switch.num c.in-Switch.den in
    let tree = switch_tree c.in-Switch.num c.in-Switch.den in
    form_expanded (bindings_in c.args.sheet.now) c.args.expr.now f f u u c.in-Switch.is tree tree refl

pub expand-returns-in-Tiny : goal.expand-returns-in-Tiny
expand-returns-in-Tiny t c =
    let f = expr.Tiny c.in-Tiny.miny c.in-Tiny.num c.in-Tiny.den in
    let u = tiny c.in-Tiny.miny c.in-Tiny.num c.in-Tiny.den in
    let tree = tiny_tree c.in-Tiny.miny c.in-Tiny.num c.in-Tiny.den in
    form_expanded (bindings_in c.args.sheet.now) c.args.expr.now f f u u c.in-Tiny.is tree tree refl

pub expand-returns-in_ok-rights-in-Braces : goal.expand-returns-in_ok-rights-in-Braces
expand-returns-in_ok-rights-in-Braces t c = braces_expanded (bindings_in c.args.sheet.now) c.args.expr.now c.in-Braces.lefts c.in-Braces.rights
    c.in_ok-lefts-in-Braces.lefts c.in_ok-rights-in-Braces.rights c.in-Braces.is c.in_ok-lefts-in-Braces.ensures c.in_ok-rights-in-Braces.ensures

pub expand-returns-in_ok-new-in-Negative : goal.expand-returns-in_ok-new-in-Negative
expand-returns-in_ok-new-in-Negative t c =
    let made = c.in_ok-new-in-Negative.field-0 in
    let same : made.value ≡ c.in_ok-inner-in-Negative.inner = search rules in
    negative_expanded (bindings_in c.args.sheet.now) c.args.expr.now c.deref.result.now c.in-Negative.inner made c.in-Negative.is c.deref.ensures
    (ap tree_of same ∙ c.in_ok-inner-in-Negative.ensures)

pub expand-returns-in_ok-new-in-Multiple : goal.expand-returns-in_ok-new-in-Multiple
expand-returns-in_ok-new-in-Multiple t c =
    let made = c.in_ok-new-in-Multiple.field-0 in
    let same : made.value ≡ c.in_ok-inner-in-Multiple.inner = search rules in
    multiple_expanded (bindings_in c.args.sheet.now) c.in-Multiple.count c.args.expr.now c.deref-in-Multiple.result.now c.in-Multiple.inner made
    c.in-Multiple.is c.deref-in-Multiple.ensures (ap tree_of same ∙ c.in_ok-inner-in-Multiple.ensures)

pub expand-returns-in_ok-expand_terms-in-Sum : goal.expand-returns-in_ok-expand_terms-in-Sum
expand-returns-in_ok-expand_terms-in-Sum t c = sum_expanded (bindings_in c.args.sheet.now) c.args.expr.now c.in-Sum.terms
    c.in_ok-expand_terms-in-Sum.field-0 c.in-Sum.is c.in_ok-expand_terms-in-Sum.ensures

pub expand-returns-in_ok-copy_text-in-Game-2 : goal.expand-returns-in_ok-copy_text-in-Game-2
expand-returns-in_ok-copy_text-in-Game-2 t c = game_expanded (bindings_in c.args.sheet.now) c.args.expr.now c.in-Game.kind c.in-Game.rules c.in-Game.board
    c.in_ok-copy_text-in-Game.field-0 c.in_ok-copy_text-in-Game-2.field-0 c.in-Game.is c.in_ok-copy_text-in-Game.ensures c.in_ok-copy_text-in-Game-2.ensures

pub expand-returns-in_ok-copy_text-in-Octal : goal.expand-returns-in_ok-copy_text-in-Octal
expand-returns-in_ok-copy_text-in-Octal t c = octal_expanded (bindings_in c.args.sheet.now) c.args.expr.now c.in-Octal.code
    c.in_ok-copy_text-in-Octal.field-0 c.in-Octal.heap c.in-Octal.is c.in_ok-copy_text-in-Octal.ensures

pub expand-returns-in-Name : goal.expand-returns-in-Name
expand-returns-in-Name t c = IfOk-weaker c.expand_use.result _ _
    (λ g h. use_expanded (bindings_in c.args.sheet.now) c.args.expr.now g c.in-Name.text c.in-Name.column c.in-Name.is h) c.expand_use.ensures

-- ---- uses and terms

pub copy-returns : goal.copy-returns
copy-returns t c =
    let u = tree_of c.args.expr.now in
    IfOk-weaker c.expand.result _ _ (λ g h. h ∙ ap (λ (z : Bindings). expanded z u) c.new.ensures.bindings ∙ bare u) c.expand.ensures

pub expand_use-returns-in-Some : goal.expand_use-returns-in-Some
expand_use-returns-in-Some t c =
    IfOk-weaker c.copy.result _ _
    (λ g h. h ∙ ap (λ (o : Option Tree). or_use c.args.name.now c.args.column o)
    (c.in-Some.ensures.bound ∙ ap (λ (z : List ℕ). bound_to (bindings_in c.args.sheet.now) z) c.as_slice.ensures)) c.copy.ensures

pub expand_use-returns-in_ok-copy_text-in-None : goal.expand_use-returns-in_ok-copy_text-in-None
expand_use-returns-in_ok-copy_text-in-None t c =
    used_tree c.in_ok-copy_text-in-None.field-0 c.args.column
    ∙ ap (λ (z : List ℕ). used z c.args.column) c.in_ok-copy_text-in-None.ensures
    ∙ ap (λ (o : Option Tree). or_use c.args.name.now c.args.column o)
    (c.in-None.ensures.bound ∙ ap (λ (z : List ℕ). bound_to (bindings_in c.args.sheet.now) z) c.as_slice.ensures)

pub expand_terms-loop-term-preserved : goal.expand_terms-loop-term-preserved
expand_terms-loop-term-preserved t c =
    ap (λ (z : List Term). terms_of z) c.in_ok-push.ensures.items
    ∙ term_next (bindings_in c.args.sheet.now) c.as_slice-term-items.result.now c.loop-term.term-index c.term-item.result c.in_ok-expr.expr
    c.loop-term.items.items c.loop-term-test.true c.term-item.is c.loop-term.invariant c.in_ok-expr.ensures

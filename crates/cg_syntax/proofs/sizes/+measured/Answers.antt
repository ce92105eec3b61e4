use Rattle.std.proofs.Common.{rules, ◌≡◌, ◌++◌, arith, ap, sym, ◌∙◌, refl, [], ◌∷◌, Bool}
use Rattle.std.proofs.lemmas.Result.{err_from_is_err_and}
use Rattle.cg_syntax.specs.Bound.{bindings_in}
use Rattle.cg_query.specs.Tree.{Tree, number, ups, nimber, switch, tiny, braces, negative, multiple, sum, game, octal, used, terms_from}
use Rattle.cg_query.specs.Trees.{tree_of, trees_in, term_of, terms_in}
use Rattle.cg_query.specs.declared.expr.Expr.{Expr}
use Rattle.cg_query.specs.declared.expr.Expr.TheVariants as expr
use Rattle.cg_query.proofs.TreeOf.{number_tree, ups_tree_of, nimber_tree, switch_tree, tiny_tree, braces_tree}
use Rattle.cg_query.proofs.TreeOf.{negative_tree, multiple_tree, sum_tree, game_tree, octal_tree, used_tree, term_tree}
use Rattle.cg_query.proofs.Walk.{size, size_of_braces, size_of_negative, size_of_multiple, size_of_sum, size_of_item, size_of_term}
use Rattle.cg_syntax.proofs.SizeSteps.{beside_sized, failed, fails_first, fails_later, item_fails, item_sized, leaf_sized, multiple_over, negative_over}
use Rattle.cg_syntax.proofs.SizeSteps.{node_fails, node_sized, one_sized, sides_over, sum_over, term_fails, term_sized, trees_of_terms, used_sized}
use Rattle.cg_syntax.proofs.sizes.+measured.Goals as goal

-- ---- measures

pub measured-sides_size-requires : goal.measured-sides_size-requires
measured-sides_size-requires t c = let b = size_of_braces c.args.expr.now c.in-Braces.lefts c.in-Braces.rights c.in-Braces.is in search rules

pub measured-measured-requires : goal.measured-measured-requires
measured-measured-requires t c =
    let b = size_of_negative c.args.expr.now c.in-Negative.inner c.in-Negative.is in
    let s : size (tree_of c.deref.result.now) ≡ size (tree_of c.in-Negative.inner.value) = ap (λ (x : Expr). size (tree_of x)) c.deref.ensures in
    search rules

pub measured-measured-requires-in-Multiple : goal.measured-measured-requires-in-Multiple
measured-measured-requires-in-Multiple t c =
    let b = size_of_multiple c.args.expr.now c.in-Multiple.field-0 c.in-Multiple.inner c.in-Multiple.is in
    let s : size (tree_of c.deref-in-Multiple.result.now) ≡ size (tree_of c.in-Multiple.inner.value) = ap (λ (x : Expr). size (tree_of x))
    c.deref-in-Multiple.ensures in
    search rules

pub measured-terms_size-requires : goal.measured-terms_size-requires
measured-terms_size-requires t c = let b = size_of_sum c.args.expr.now c.in-Sum.terms c.in-Sum.is in search rules

pub side_size-measured-requires : goal.side_size-measured-requires
side_size-measured-requires t c =
    let s = size_of_item c.as_slice-expr-items.result.now (trees_in c.args.exprs.now) c.loop-expr.expr-index c.expr-item.result c.as_slice-expr-items.ensures
    c.expr-item.is c.loop-expr-test.true in
    search rules

pub terms_size-measured-requires : goal.terms_size-measured-requires
terms_size-measured-requires t c =
    let s = size_of_term c.as_slice-term-items.result.now (terms_in c.args.terms.now) c.loop-term.term-index c.term-item.result c.as_slice-term-items.ensures
    c.term-item.is c.loop-term-test.true in
    let e : size (tree_of c.term-item.result.expr) ≡ size (term_of c.term-item.result).1 = ap (λ (p : Bool × Tree). size p.1)
    (sym (term_tree c.term-item.result.minus c.term-item.result.expr)) in
    search rules

-- ---- leaves

pub measured-returns-in-Number : goal.measured-returns-in-Number
measured-returns-in-Number t c = one_sized (bindings_in c.args.sheet.now) c.args.expr.now (expr.Number c.in-Number.negative c.in-Number.num c.in-Number.den)
    (number c.in-Number.negative c.in-Number.num c.in-Number.den)
    c.leaf.result c.in-Number.is (number_tree c.in-Number.negative c.in-Number.num c.in-Number.den) refl refl refl c.leaf.ensures

pub measured-returns-in-Ups : goal.measured-returns-in-Ups
measured-returns-in-Ups t c = one_sized (bindings_in c.args.sheet.now) c.args.expr.now (expr.Ups c.in-Ups.down c.in-Ups.count) (ups c.in-Ups.down
    c.in-Ups.count)
    c.leaf-in-Ups.result c.in-Ups.is (ups_tree_of c.in-Ups.down c.in-Ups.count) refl refl refl c.leaf-in-Ups.ensures

pub measured-returns-in-Nimber : goal.measured-returns-in-Nimber
measured-returns-in-Nimber t c = one_sized (bindings_in c.args.sheet.now) c.args.expr.now (expr.Nimber c.in-Nimber.field-0) (nimber c.in-Nimber.field-0)
    c.leaf-in-Nimber.result c.in-Nimber.is (nimber_tree c.in-Nimber.field-0) refl refl refl c.leaf-in-Nimber.ensures

pub measured-returns-in-Switch : goal.measured-returns-in-Switch
measured-returns-in-Switch t c = one_sized (bindings_in c.args.sheet.now) c.args.expr.now (expr.Switch c.in-Switch.num c.in-Switch.den) (switch c.in-Switch.num
    c.in-Switch.den)
    c.leaf-in-Switch.result c.in-Switch.is (switch_tree c.in-Switch.num c.in-Switch.den) refl refl refl c.leaf-in-Switch.ensures

pub measured-returns-in-Tiny : goal.measured-returns-in-Tiny
measured-returns-in-Tiny t c = one_sized (bindings_in c.args.sheet.now) c.args.expr.now (expr.Tiny c.in-Tiny.miny c.in-Tiny.num c.in-Tiny.den)
    (tiny c.in-Tiny.miny c.in-Tiny.num c.in-Tiny.den)
    c.leaf-in-Tiny.result c.in-Tiny.is (tiny_tree c.in-Tiny.miny c.in-Tiny.num c.in-Tiny.den) refl refl refl c.leaf-in-Tiny.ensures

pub measured-returns-in-Octal : goal.measured-returns-in-Octal
measured-returns-in-Octal t c = one_sized (bindings_in c.args.sheet.now) c.args.expr.now (expr.Octal c.in-Octal.code c.in-Octal.heap) (octal c.in-Octal.code
    c.in-Octal.heap)
    c.leaf-in-Octal.result c.in-Octal.is (octal_tree c.in-Octal.code c.in-Octal.heap) refl refl refl c.leaf-in-Octal.ensures

pub measured-returns-in-Game : goal.measured-returns-in-Game
measured-returns-in-Game t c = leaf_sized (bindings_in c.args.sheet.now) c.args.expr.now (expr.Game c.in-Game.kind c.in-Game.rules c.in-Game.board)
    (game c.in-Game.kind c.in-Game.rules c.in-Game.board) c.board_size.result c.in-Game.is (game_tree c.in-Game.kind c.in-Game.rules c.in-Game.board) refl
    (omega (arith, c.board_size.ensures.parts, c.len.ensures, c.len-in-Game.ensures)) c.board_size.ensures.levels refl c.board_size.ensures.has_use

pub measured-returns-in-Name : goal.measured-returns-in-Name
measured-returns-in-Name t c = used_sized (bindings_in c.args.sheet.now) c.args.expr.now (expr.Name c.in-Name.text c.in-Name.column)
    (used c.in-Name.text c.in-Name.column) c.use_size.result c.in-Name.is (used_tree c.in-Name.text c.in-Name.column) c.use_size.ensures

-- ---- nodes

pub measured-returns-in_ok-sides_size-in-Braces : goal.measured-returns-in_ok-sides_size-in-Braces
measured-returns-in_ok-sides_size-in-Braces t c =
    let bs = bindings_in c.args.sheet.now in
    let ls = trees_in c.in-Braces.lefts in
    let rs = trees_in c.in-Braces.rights in
    node_sized bs c.args.expr.now (expr.Braces c.in-Braces.lefts c.in-Braces.rights) (braces ls rs) (ls ++ rs)
    c.in_ok-sides_size-in-Braces.field-0 c.below.result c.in-Braces.is (braces_tree c.in-Braces.lefts c.in-Braces.rights) (sides_over bs ls rs)
    (record { parts = c.below.ensures.parts; levels = c.below.ensures.levels; has_use = c.below.ensures.has_use })
    c.in_ok-sides_size-in-Braces.ensures

pub measured-returns-in_err-sides_size-in-Braces : goal.measured-returns-in_err-sides_size-in-Braces
measured-returns-in_err-sides_size-in-Braces t c =
    let bs = bindings_in c.args.sheet.now in
    let ls = trees_in c.in-Braces.lefts in
    let rs = trees_in c.in-Braces.rights in
    let p = err_from_is_err_and c.from_residual.result c.from_residual.ensures.1 in
    failed bs (tree_of c.args.expr.now ∷ []) c.from_residual.result p.0 c.in_err-sides_size-in-Braces.field-0.0 p.1 p.2
    (node_fails bs c.args.expr.now (expr.Braces c.in-Braces.lefts c.in-Braces.rights) (braces ls rs) (ls ++ rs)
    c.in_err-sides_size-in-Braces.field-0.0 c.in-Braces.is (braces_tree c.in-Braces.lefts c.in-Braces.rights) (sides_over bs ls rs)
    c.in_err-sides_size-in-Braces.ensures)

pub measured-returns-in_ok-measured-in-Negative : goal.measured-returns-in_ok-measured-in-Negative
measured-returns-in_ok-measured-in-Negative t c =
    let bs = bindings_in c.args.sheet.now in
    let t1 = tree_of c.deref.result.now in
    let same : tree_of (expr.Negative c.in-Negative.inner) ≡ negative t1 =
    negative_tree c.in-Negative.inner ∙ ap (λ (x : Expr). negative (tree_of x)) (sym c.deref.ensures) in
    node_sized bs c.args.expr.now (expr.Negative c.in-Negative.inner) (negative t1) (t1 ∷ []) c.in_ok-measured-in-Negative.field-0 c.below-in-Negative.result
    c.in-Negative.is same (negative_over bs t1)
    (record { parts = c.below-in-Negative.ensures.parts; levels = c.below-in-Negative.ensures.levels; has_use = c.below-in-Negative.ensures.has_use })
    c.in_ok-measured-in-Negative.ensures

pub measured-returns-in_err-measured-in-Negative : goal.measured-returns-in_err-measured-in-Negative
measured-returns-in_err-measured-in-Negative t c =
    let bs = bindings_in c.args.sheet.now in
    let t1 = tree_of c.deref.result.now in
    let same : tree_of (expr.Negative c.in-Negative.inner) ≡ negative t1 =
    negative_tree c.in-Negative.inner ∙ ap (λ (x : Expr). negative (tree_of x)) (sym c.deref.ensures) in
    let p = err_from_is_err_and c.from_residual-in_err-measured-in-Negative.result c.from_residual-in_err-measured-in-Negative.ensures.1 in
    failed bs (tree_of c.args.expr.now ∷ []) c.from_residual-in_err-measured-in-Negative.result p.0 c.in_err-measured-in-Negative.field-0.0 p.1 p.2
    (node_fails bs c.args.expr.now (expr.Negative c.in-Negative.inner) (negative t1) (t1 ∷ []) c.in_err-measured-in-Negative.field-0.0
    c.in-Negative.is same (negative_over bs t1) c.in_err-measured-in-Negative.ensures)

pub measured-returns-in_ok-measured-in-Multiple : goal.measured-returns-in_ok-measured-in-Multiple
measured-returns-in_ok-measured-in-Multiple t c =
    let bs = bindings_in c.args.sheet.now in
    let t1 = tree_of c.deref-in-Multiple.result.now in
    let same : tree_of (expr.Multiple c.in-Multiple.field-0 c.in-Multiple.inner) ≡ multiple c.in-Multiple.field-0 t1 =
    multiple_tree c.in-Multiple.field-0 c.in-Multiple.inner ∙ ap (λ (x : Expr). multiple c.in-Multiple.field-0 (tree_of x)) (sym c.deref-in-Multiple.ensures) in
    node_sized bs c.args.expr.now (expr.Multiple c.in-Multiple.field-0 c.in-Multiple.inner) (multiple c.in-Multiple.field-0 t1) (t1 ∷ [])
    c.in_ok-measured-in-Multiple.field-0 c.below-in-Multiple.result
    c.in-Multiple.is same (multiple_over bs c.in-Multiple.field-0 t1)
    (record { parts = c.below-in-Multiple.ensures.parts; levels = c.below-in-Multiple.ensures.levels; has_use = c.below-in-Multiple.ensures.has_use })
    c.in_ok-measured-in-Multiple.ensures

pub measured-returns-in_err-measured-in-Multiple : goal.measured-returns-in_err-measured-in-Multiple
measured-returns-in_err-measured-in-Multiple t c =
    let bs = bindings_in c.args.sheet.now in
    let t1 = tree_of c.deref-in-Multiple.result.now in
    let same : tree_of (expr.Multiple c.in-Multiple.field-0 c.in-Multiple.inner) ≡ multiple c.in-Multiple.field-0 t1 =
    multiple_tree c.in-Multiple.field-0 c.in-Multiple.inner ∙ ap (λ (x : Expr). multiple c.in-Multiple.field-0 (tree_of x)) (sym c.deref-in-Multiple.ensures) in
    let p = err_from_is_err_and c.from_residual-in_err-measured-in-Multiple.result c.from_residual-in_err-measured-in-Multiple.ensures.1 in
    failed bs (tree_of c.args.expr.now ∷ []) c.from_residual-in_err-measured-in-Multiple.result p.0 c.in_err-measured-in-Multiple.field-0.0 p.1 p.2
    (node_fails bs c.args.expr.now (expr.Multiple c.in-Multiple.field-0 c.in-Multiple.inner) (multiple c.in-Multiple.field-0 t1) (t1 ∷ [])
    c.in_err-measured-in-Multiple.field-0.0
    c.in-Multiple.is same (multiple_over bs c.in-Multiple.field-0 t1) c.in_err-measured-in-Multiple.ensures)

pub measured-returns-in_ok-terms_size-in-Sum : goal.measured-returns-in_ok-terms_size-in-Sum
measured-returns-in_ok-terms_size-in-Sum t c =
    let bs = bindings_in c.args.sheet.now in
    let ts = terms_in c.in-Sum.terms in
    node_sized bs c.args.expr.now (expr.Sum c.in-Sum.terms) (sum (terms_from ts)) (trees_of_terms ts) c.in_ok-terms_size-in-Sum.field-0
    c.below-in-Sum.result c.in-Sum.is (sum_tree c.in-Sum.terms) (sum_over bs ts)
    (record { parts = c.below-in-Sum.ensures.parts; levels = c.below-in-Sum.ensures.levels; has_use = c.below-in-Sum.ensures.has_use })
    c.in_ok-terms_size-in-Sum.ensures

pub measured-returns-in_err-terms_size-in-Sum : goal.measured-returns-in_err-terms_size-in-Sum
measured-returns-in_err-terms_size-in-Sum t c =
    let bs = bindings_in c.args.sheet.now in
    let ts = terms_in c.in-Sum.terms in
    let p = err_from_is_err_and c.from_residual-in_err-terms_size-in-Sum.result c.from_residual-in_err-terms_size-in-Sum.ensures.1 in
    failed bs (tree_of c.args.expr.now ∷ []) c.from_residual-in_err-terms_size-in-Sum.result p.0 c.in_err-terms_size-in-Sum.field-0.0 p.1 p.2
    (node_fails bs c.args.expr.now (expr.Sum c.in-Sum.terms) (sum (terms_from ts)) (trees_of_terms ts) c.in_err-terms_size-in-Sum.field-0.0
    c.in-Sum.is (sum_tree c.in-Sum.terms) (sum_over bs ts) c.in_err-terms_size-in-Sum.ensures)

-- ---- lists

pub sides_size-returns : goal.sides_size-returns
sides_size-returns t c = beside_sized (bindings_in c.args.sheet.now) (trees_in c.args.lefts.now) (trees_in c.args.rights.now) c.in_ok-left.left
    c.in_ok-right.right c.beside.result
    (record { parts = c.beside.ensures.parts; levels = c.beside.ensures.levels; has_use = c.beside.ensures.has_use })
    c.in_ok-left.ensures c.in_ok-right.ensures

pub sides_size-returns-in_err-left : goal.sides_size-returns-in_err-left
sides_size-returns-in_err-left t c =
    let bs = bindings_in c.args.sheet.now in
    let ls = trees_in c.args.lefts.now in
    let rs = trees_in c.args.rights.now in
    let p = err_from_is_err_and c.from_residual.result c.from_residual.ensures.1 in
    failed bs (ls ++ rs) c.from_residual.result p.0 c.in_err-left.field-0.0 p.1 p.2 (fails_first bs ls rs c.in_err-left.field-0.0 c.in_err-left.ensures)

pub sides_size-returns-in_err-right : goal.sides_size-returns-in_err-right
sides_size-returns-in_err-right t c =
    let bs = bindings_in c.args.sheet.now in
    let ls = trees_in c.args.lefts.now in
    let rs = trees_in c.args.rights.now in
    let p = err_from_is_err_and c.from_residual-in_err-right.result c.from_residual-in_err-right.ensures.1 in
    failed bs (ls ++ rs) c.from_residual-in_err-right.result p.0 c.in_err-right.field-0.0 p.1 p.2
    (fails_later bs ls rs c.in_err-right.field-0.0 c.in_ok-left.left c.in_ok-left.ensures c.in_err-right.ensures)

pub side_size-loop-expr-preserved : goal.side_size-loop-expr-preserved
side_size-loop-expr-preserved t c = item_sized (bindings_in c.args.sheet.now) c.as_slice-expr-items.result.now c.loop-expr.expr-index c.expr-item.result
    c.loop-expr.all c.in_ok-measured.field-0 c.beside-all.result c.loop-expr-test.true c.expr-item.is
    (record { parts = c.beside-all.ensures.parts; levels = c.beside-all.ensures.levels; has_use = c.beside-all.ensures.has_use })
    c.loop-expr.invariant c.in_ok-measured.ensures

pub side_size-returns-in_err-measured : goal.side_size-returns-in_err-measured
side_size-returns-in_err-measured t c =
    let bs = bindings_in c.args.sheet.now in
    let p = err_from_is_err_and c.from_residual.result c.from_residual.ensures.1 in
    failed bs (trees_in c.args.exprs.now) c.from_residual.result p.0 c.in_err-measured.field-0.0 p.1 p.2
    (item_fails bs c.as_slice-expr-items.result.now (trees_in c.args.exprs.now) c.loop-expr.expr-index c.expr-item.result c.loop-expr.all
    c.in_err-measured.field-0.0 c.as_slice-expr-items.ensures c.loop-expr-test.true c.expr-item.is c.loop-expr.invariant c.in_err-measured.ensures)

pub terms_size-loop-term-preserved : goal.terms_size-loop-term-preserved
terms_size-loop-term-preserved t c = term_sized (bindings_in c.args.sheet.now) c.as_slice-term-items.result.now c.loop-term.term-index c.term-item.result
    c.loop-term.all c.in_ok-measured.field-0 c.beside-all.result c.loop-term-test.true c.term-item.is
    (record { parts = c.beside-all.ensures.parts; levels = c.beside-all.ensures.levels; has_use = c.beside-all.ensures.has_use })
    c.loop-term.invariant c.in_ok-measured.ensures

pub terms_size-returns-in_err-measured : goal.terms_size-returns-in_err-measured
terms_size-returns-in_err-measured t c =
    let bs = bindings_in c.args.sheet.now in
    let p = err_from_is_err_and c.from_residual.result c.from_residual.ensures.1 in
    failed bs (trees_of_terms (terms_in c.args.terms.now)) c.from_residual.result p.0 c.in_err-measured.field-0.0 p.1 p.2
    (term_fails bs c.as_slice-term-items.result.now (terms_in c.args.terms.now) c.loop-term.term-index c.term-item.result c.loop-term.all
    c.in_err-measured.field-0.0 c.as_slice-term-items.ensures c.loop-term-test.true c.term-item.is c.loop-term.invariant c.in_err-measured.ensures)

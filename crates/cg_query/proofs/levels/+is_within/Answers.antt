use Rattle.std.proofs.Common.{ap, sym, ◌∙◌, refl, max}
use Rattle.cg_query.specs.Tree.{number, ups, nimber, switch, tiny, braces, negative, multiple, sum, game, octal, used, terms_from, trees_from}
use Rattle.cg_query.specs.Trees.{tree_of, trees_in, terms_in}
use Rattle.cg_query.specs.Heights.{height, heights, term_heights}
use Rattle.cg_query.specs.declared.expr.Expr.{Expr}
use Rattle.cg_query.specs.declared.expr.Expr.TheVariants as expr
use Rattle.cg_query.proofs.TreeOf.{number_tree, ups_tree_of, nimber_tree, switch_tree, tiny_tree, braces_tree}
use Rattle.cg_query.proofs.TreeOf.{negative_tree, multiple_tree, sum_tree, game_tree, octal_tree, used_tree}
use Rattle.cg_query.proofs.Heights.{leaf_low, parts_low, heights_next, item_high, term_heights_next, term_high}
use Rattle.cg_query.proofs.levels.+is_within.Goals as goal

pub parts_within-returns-in-Number : goal.parts_within-returns-in-Number
parts_within-returns-in-Number t c = leaf_low c.args.expr.now (expr.Number c.in-Number.negative c.in-Number.num c.in-Number.den)
    (number c.in-Number.negative c.in-Number.num c.in-Number.den) c.args.levels c.in-Number.is
    (number_tree c.in-Number.negative c.in-Number.num c.in-Number.den) refl

pub parts_within-returns-in-Ups : goal.parts_within-returns-in-Ups
parts_within-returns-in-Ups t c = leaf_low c.args.expr.now (expr.Ups c.in-Ups.down c.in-Ups.count) (ups c.in-Ups.down c.in-Ups.count)
    c.args.levels c.in-Ups.is (ups_tree_of c.in-Ups.down c.in-Ups.count) refl

pub parts_within-returns-in-Nimber : goal.parts_within-returns-in-Nimber
parts_within-returns-in-Nimber t c = leaf_low c.args.expr.now (expr.Nimber c.in-Nimber.field-0) (nimber c.in-Nimber.field-0)
    c.args.levels c.in-Nimber.is (nimber_tree c.in-Nimber.field-0) refl

pub parts_within-returns-in-Switch : goal.parts_within-returns-in-Switch
parts_within-returns-in-Switch t c = leaf_low c.args.expr.now (expr.Switch c.in-Switch.num c.in-Switch.den)
    (switch c.in-Switch.num c.in-Switch.den) c.args.levels c.in-Switch.is (switch_tree c.in-Switch.num c.in-Switch.den) refl

pub parts_within-returns-in-Tiny : goal.parts_within-returns-in-Tiny
parts_within-returns-in-Tiny t c = leaf_low c.args.expr.now (expr.Tiny c.in-Tiny.miny c.in-Tiny.num c.in-Tiny.den)
    (tiny c.in-Tiny.miny c.in-Tiny.num c.in-Tiny.den) c.args.levels c.in-Tiny.is
    (tiny_tree c.in-Tiny.miny c.in-Tiny.num c.in-Tiny.den) refl

pub parts_within-returns-in-Game : goal.parts_within-returns-in-Game
parts_within-returns-in-Game t c = leaf_low c.args.expr.now (expr.Game c.in-Game.kind c.in-Game.rules c.in-Game.board)
    (game c.in-Game.kind c.in-Game.rules c.in-Game.board) c.args.levels c.in-Game.is
    (game_tree c.in-Game.kind c.in-Game.rules c.in-Game.board) refl

pub parts_within-returns-in-Octal : goal.parts_within-returns-in-Octal
parts_within-returns-in-Octal t c = leaf_low c.args.expr.now (expr.Octal c.in-Octal.code c.in-Octal.heap)
    (octal c.in-Octal.code c.in-Octal.heap) c.args.levels c.in-Octal.is (octal_tree c.in-Octal.code c.in-Octal.heap) refl

pub parts_within-returns-in-Name : goal.parts_within-returns-in-Name
parts_within-returns-in-Name t c = leaf_low c.args.expr.now (expr.Name c.in-Name.text c.in-Name.column)
    (used c.in-Name.text c.in-Name.column) c.args.levels c.in-Name.is (used_tree c.in-Name.text c.in-Name.column) refl

pub parts_within-returns-in-Braces : goal.parts_within-returns-in-Braces
parts_within-returns-in-Braces t c = parts_low c.args.expr.now (expr.Braces c.in-Braces.lefts c.in-Braces.rights)
    (braces (trees_in c.in-Braces.lefts) (trees_in c.in-Braces.rights)) c.args.levels
    (max (heights (trees_from (trees_in c.in-Braces.lefts))) (heights (trees_from (trees_in c.in-Braces.rights))))
    c.sides_within.result c.in-Braces.is (braces_tree c.in-Braces.lefts c.in-Braces.rights) refl c.sides_within.ensures

pub parts_within-returns-in-Negative : goal.parts_within-returns-in-Negative
parts_within-returns-in-Negative t c = parts_low c.args.expr.now (expr.Negative c.in-Negative.inner)
    (negative (tree_of c.deref.result.now)) c.args.levels (height (tree_of c.deref.result.now)) c.is_within.result c.in-Negative.is
    (negative_tree c.in-Negative.inner ∙ ap (λ (x : Expr). negative (tree_of x)) (sym c.deref.ensures)) refl c.is_within.ensures

pub parts_within-returns-in-Multiple : goal.parts_within-returns-in-Multiple
parts_within-returns-in-Multiple t c = parts_low c.args.expr.now (expr.Multiple c.in-Multiple.field-0 c.in-Multiple.inner)
    (multiple c.in-Multiple.field-0 (tree_of c.deref-in-Multiple.result.now)) c.args.levels (height (tree_of c.deref-in-Multiple.result.now))
    c.is_within-in-Multiple.result c.in-Multiple.is
    (multiple_tree c.in-Multiple.field-0 c.in-Multiple.inner ∙ ap (λ (x : Expr). multiple c.in-Multiple.field-0 (tree_of x)) (sym c.deref-in-Multiple.ensures))
    refl c.is_within-in-Multiple.ensures

pub parts_within-returns-in-Sum : goal.parts_within-returns-in-Sum
parts_within-returns-in-Sum t c = parts_low c.args.expr.now (expr.Sum c.in-Sum.terms) (sum (terms_from (terms_in c.in-Sum.terms)))
    c.args.levels (term_heights (terms_from (terms_in c.in-Sum.terms))) c.terms_within.result c.in-Sum.is (sum_tree c.in-Sum.terms) refl c.terms_within.ensures

pub side_within-loop-expr-preserved : goal.side_within-loop-expr-preserved
side_within-loop-expr-preserved t c = heights_next c.as_slice-expr-items.result.now c.loop-expr.expr-index c.expr-item.result c.args.levels
    c.loop-expr-test.true c.expr-item.is c.loop-expr.invariant (c.is_within.ensures.0 c.if-not-is_within.false)

pub terms_within-loop-term-preserved : goal.terms_within-loop-term-preserved
terms_within-loop-term-preserved t c = term_heights_next c.as_slice-term-items.result.now c.loop-term.term-index c.term-item.result c.args.levels
    c.loop-term-test.true c.term-item.is c.loop-term.invariant (c.is_within.ensures.0 c.if-not-is_within.false)

pub side_within-returns-then-not-is_within : goal.side_within-returns-then-not-is_within
side_within-returns-then-not-is_within t c = item_high c.as_slice-expr-items.result.now (trees_in c.args.exprs.now) c.loop-expr.expr-index
    c.expr-item.result c.args.levels c.is_within.result c.as_slice-expr-items.ensures c.expr-item.is c.loop-expr-test.true
    c.if-not-is_within.true c.is_within.ensures

pub terms_within-returns-then-not-is_within : goal.terms_within-returns-then-not-is_within
terms_within-returns-then-not-is_within t c = term_high c.as_slice-term-items.result.now (terms_in c.args.terms.now) c.loop-term.term-index
    c.term-item.result c.args.levels c.is_within.result c.as_slice-term-items.ensures c.term-item.is c.loop-term-test.true
    c.if-not-is_within.true c.is_within.ensures

use Rattle.cg_query.specs.Tree.{number, ups, nimber, switch, tiny, braces, negative, multiple, sum, game, octal, used, terms_from}
use Rattle.cg_query.specs.Trees.{tree_of, trees_in, terms_in}
use Rattle.cg_query.specs.declared.expr.Expr.TheVariants as expr
use Rattle.cg_query.proofs.TreeOf.{number_tree, ups_tree_of, nimber_tree, switch_tree, tiny_tree, braces_tree}
use Rattle.cg_query.proofs.TreeOf.{negative_tree, multiple_tree, sum_tree, game_tree, octal_tree, used_tree}
use Rattle.cg_writer.proofs.WrittenSteps.{braces_test}
use Rattle.cg_writer.proofs.write_expr.are_braces.Goals as goal

pub returns-in-Number : goal.returns-in-Number
returns-in-Number c = braces_test c.args.expr.now (expr.Number c.in-Number.negative c.in-Number.num c.in-Number.den)
    (number c.in-Number.negative c.in-Number.num c.in-Number.den) c.in-Number.is
    (number_tree c.in-Number.negative c.in-Number.num c.in-Number.den)

pub returns-in-Ups : goal.returns-in-Ups
returns-in-Ups c = braces_test c.args.expr.now (expr.Ups c.in-Ups.down c.in-Ups.count) (ups c.in-Ups.down c.in-Ups.count) c.in-Ups.is
    (ups_tree_of c.in-Ups.down c.in-Ups.count)

pub returns-in-Nimber : goal.returns-in-Nimber
returns-in-Nimber c = braces_test c.args.expr.now (expr.Nimber c.in-Nimber.field-0) (nimber c.in-Nimber.field-0) c.in-Nimber.is
    (nimber_tree c.in-Nimber.field-0)

pub returns-in-Switch : goal.returns-in-Switch
returns-in-Switch c = braces_test c.args.expr.now (expr.Switch c.in-Switch.num c.in-Switch.den) (switch c.in-Switch.num c.in-Switch.den)
    c.in-Switch.is (switch_tree c.in-Switch.num c.in-Switch.den)

pub returns-in-Tiny : goal.returns-in-Tiny
returns-in-Tiny c = braces_test c.args.expr.now (expr.Tiny c.in-Tiny.miny c.in-Tiny.num c.in-Tiny.den)
    (tiny c.in-Tiny.miny c.in-Tiny.num c.in-Tiny.den) c.in-Tiny.is (tiny_tree c.in-Tiny.miny c.in-Tiny.num c.in-Tiny.den)

pub returns-in-Braces : goal.returns-in-Braces
returns-in-Braces c = braces_test c.args.expr.now (expr.Braces c.in-Braces.field-0 c.in-Braces.field-1)
    (braces (trees_in c.in-Braces.field-0) (trees_in c.in-Braces.field-1)) c.in-Braces.is
    (braces_tree c.in-Braces.field-0 c.in-Braces.field-1)

pub returns-in-Negative : goal.returns-in-Negative
returns-in-Negative c = braces_test c.args.expr.now (expr.Negative c.in-Negative.field-0) (negative (tree_of c.in-Negative.field-0.value))
    c.in-Negative.is (negative_tree c.in-Negative.field-0)

pub returns-in-Multiple : goal.returns-in-Multiple
returns-in-Multiple c = braces_test c.args.expr.now (expr.Multiple c.in-Multiple.field-0 c.in-Multiple.field-1)
    (multiple c.in-Multiple.field-0 (tree_of c.in-Multiple.field-1.value)) c.in-Multiple.is
    (multiple_tree c.in-Multiple.field-0 c.in-Multiple.field-1)

pub returns-in-Sum : goal.returns-in-Sum
returns-in-Sum c = braces_test c.args.expr.now (expr.Sum c.in-Sum.field-0) (sum (terms_from (terms_in c.in-Sum.field-0))) c.in-Sum.is
    (sum_tree c.in-Sum.field-0)

pub returns-in-Game : goal.returns-in-Game
returns-in-Game c = braces_test c.args.expr.now (expr.Game c.in-Game.kind c.in-Game.rules c.in-Game.board)
    (game c.in-Game.kind c.in-Game.rules c.in-Game.board) c.in-Game.is
    (game_tree c.in-Game.kind c.in-Game.rules c.in-Game.board)

pub returns-in-Octal : goal.returns-in-Octal
returns-in-Octal c = braces_test c.args.expr.now (expr.Octal c.in-Octal.code c.in-Octal.heap) (octal c.in-Octal.code c.in-Octal.heap)
    c.in-Octal.is (octal_tree c.in-Octal.code c.in-Octal.heap)

pub returns-in-Name : goal.returns-in-Name
returns-in-Name c = braces_test c.args.expr.now (expr.Name c.in-Name.text c.in-Name.column) (used c.in-Name.text c.in-Name.column)
    c.in-Name.is (used_tree c.in-Name.text c.in-Name.column)

-- What expressions and queries of the code stand for.
use Rattle.std.specs.Prelude.{List, [], ◌∷◌, map, Bool}
use Rattle.cg_query.specs.Tree.{Tree, Question, Statement, asks, defines, number, ups, nimber, switch, tiny, braces, negative, multiple}
use Rattle.cg_query.specs.Tree.{sum, game, octal, used, terms_from, value, compare, outcome, stops, mean, temp, thermo, proof, check}
use Rattle.cg_query.specs.declared.expr.Expr.{Expr}
use Rattle.cg_query.specs.declared.expr.Exprs.{Exprs}
use Rattle.cg_query.specs.declared.expr.Term.{Term}
use Rattle.cg_query.specs.declared.expr.Terms.{Terms}
use Rattle.cg_query.specs.declared.expr.Expr.TheOpen.{Expr-F, Exprs-F, Term-F, Terms-F}
use Rattle.cg_query.specs.declared.expr.Expr.TheFolds.{fold-Expr, fold-Exprs, fold-Term, fold-Terms}
use Rattle.cg_query.specs.declared.query.Query.{Query}
use Rattle.cg_query.specs.declared.query.Query.TheVariants as queries
use Rattle.cg_query.specs.declared.query.Subject.{Subject}
use Rattle.cg_query.specs.declared.query.Subject.TheVariants as subjects
use Rattle.cg_query.specs.declared.query.Statement as code_statement
use Rattle.cg_query.specs.declared.query.Statement.TheVariants as statements

-- what an expression spells, from what its parts spell
abbrev pub tree_step : Expr-F Tree (List Tree) (Bool × Tree) (List (Bool × Tree)) → Tree
tree_step (Expr-F.Number below num den) = number below num den
tree_step (Expr-F.Ups down count) = ups down count
tree_step (Expr-F.Nimber n) = nimber n
tree_step (Expr-F.Switch num den) = switch num den
tree_step (Expr-F.Tiny miny num den) = tiny miny num den
tree_step (Expr-F.Braces lefts rights) = braces lefts rights
tree_step (Expr-F.Negative e) = negative e.value
tree_step (Expr-F.Multiple n e) = multiple n e.value
tree_step (Expr-F.Sum terms) = sum (terms_from terms)
tree_step (Expr-F.Game kind rules board) = game kind rules board
tree_step (Expr-F.Octal code heap) = octal code heap
tree_step (Expr-F.Name word column) = used word column

abbrev pub exprs_step : Exprs-F Tree (List Tree) (Bool × Tree) (List (Bool × Tree)) → List Tree
exprs_step es = es.items.items

abbrev pub term_step : Term-F Tree (List Tree) (Bool × Tree) (List (Bool × Tree)) → Bool × Tree
term_step t = (t.minus, t.expr)

abbrev pub terms_step : Terms-F Tree (List Tree) (Bool × Tree) (List (Bool × Tree)) → List (Bool × Tree)
terms_step ts = ts.terms.items

-- the plain tree of an expression
unfoldable pub tree_of : Expr → Tree
tree_of = fold-Expr Tree (List Tree) (Bool × Tree) (List (Bool × Tree)) tree_step exprs_step term_step terms_step

-- the plain trees of a list of expressions, in order
unfoldable pub trees_in : Exprs → List Tree
trees_in = fold-Exprs Tree (List Tree) (Bool × Tree) (List (Bool × Tree)) tree_step exprs_step term_step terms_step

-- whether a term is subtracted, and its plain tree
unfoldable pub term_of : Term → Bool × Tree
term_of = fold-Term Tree (List Tree) (Bool × Tree) (List (Bool × Tree)) tree_step exprs_step term_step terms_step

-- the terms of a sum, in order
unfoldable pub terms_in : Terms → List (Bool × Tree)
terms_in = fold-Terms Tree (List Tree) (Bool × Tree) (List (Bool × Tree)) tree_step exprs_step term_step terms_step

-- the plain trees of expressions in order
abbrev pub trees_of : List Expr → List Tree
trees_of es = map tree_of es

-- terms in order
abbrev pub terms_of : List Term → List (Bool × Tree)
terms_of ts = map term_of ts

-- the question of a query
abbrev pub question_of : Query → Question
question_of (queries.Value e) = value (tree_of e)
question_of (queries.Compare e f) = compare (tree_of e) (tree_of f)
question_of (queries.Outcome e) = outcome (tree_of e)
question_of (queries.Stops e) = stops (tree_of e)
question_of (queries.Mean e) = mean (tree_of e)
question_of (queries.Temp e) = temp (tree_of e)
question_of (queries.Thermo e) = thermo (tree_of e)
question_of (queries.Proof e f) = proof (tree_of e) (tree_of f)
question_of (queries.Check e f text) = check (tree_of e) (tree_of f) text

-- the trees of one expression, or of two
abbrev pub trees_about : Subject → List Tree
trees_about (subjects.One e) = tree_of e.now ∷ []
trees_about (subjects.Two e f) = tree_of e.now ∷ tree_of f.now ∷ []

-- what a line of format 2 states
abbrev pub statement_of : code_statement.Statement → Statement
statement_of (statements.Ask query) = asks (question_of query)
statement_of (statements.Define name expr) = defines name (tree_of expr)

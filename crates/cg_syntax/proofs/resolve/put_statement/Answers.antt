use Rattle.std.proofs.Common.{ℕ, subst}
use Rattle.cg_grammar.specs.Lines.{ReadsIn, StatesNothing}
use Rattle.cg_syntax.specs.Session.{Syntax_at}
use Rattle.cg_syntax.specs.Puts.{IsPut}
use Rattle.cg_query.specs.Trees.{statement_of}
use Rattle.cg_query.specs.Tree.{asks, defines}
use Rattle.cg_query.specs.Trees.{question_of, tree_of}
use Rattle.cg_query.specs.declared.format.Format.TheVariants as formats
use Rattle.cg_query.specs.declared.query.Statement.{Statement}
use Rattle.cg_query.specs.declared.query.SyntaxFault.{SyntaxFault}
use Rattle.cg_syntax.proofs.SessionSteps.{column_puts, on_ok_both, on_ok_one, statement_puts}
use Rattle.cg_syntax.proofs.resolve.put_statement.Goals as goal

pub returns-in-Ok-Ask-clause-puts : goal.returns-in-Ok-Ask-clause-puts
returns-in-Ok-Ask-clause-puts c = on_ok_one c.put_query.result c.put_query.ensures.puts
    (λ p. statement_puts c.args.number c.args.line.now (asks (question_of c.in-Ok-Ask.query)) c.args.sheet.now c.put_query.new.sheet
    (subst (λ (z : Statement). ReadsIn formats.Two c.args.line.now (statement_of z)) c.in-Ok-Ask.field-0-is c.in-Ok-Ask.ensures.read) p)

pub returns-in-Ok-Define-clause-puts : goal.returns-in-Ok-Define-clause-puts
returns-in-Ok-Define-clause-puts c = on_ok_one c.put_definition.result c.put_definition.ensures.puts
    (λ p. statement_puts c.args.number c.args.line.now (defines c.in-Ok-Define.name (tree_of c.in-Ok-Define.expr)) c.args.sheet.now c.put_definition.new.sheet
    (subst (λ (z : Statement). ReadsIn formats.Two c.args.line.now (statement_of z)) c.in-Ok-Define.field-0-is c.in-Ok-Define.ensures.read) p)

pub returns-in-Err-Syntax-clause-puts : goal.returns-in-Err-Syntax-clause-puts
returns-in-Err-Syntax-clause-puts c = on_ok_both c.push.result c.push.ensures.put c.push.ensures.bindings
    (λ p b. column_puts formats.Two c.args.number c.args.line.now c.in-Err-Syntax.column c.args.sheet.now c.push.new.self
    (subst (λ (z : SyntaxFault). StatesNothing formats.Two c.args.line.now z) c.in-Err-Syntax.field-0-is c.in-Err-Syntax.ensures.refused).1
    (subst (λ (n : ℕ). IsPut c.args.number (Syntax_at n) c.args.sheet.now c.push.new.self) c.in-Err-Syntax.column-is p) b)

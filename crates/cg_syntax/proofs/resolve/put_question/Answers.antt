use Rattle.std.proofs.Common.{ap, ◌∙◌, subst, Ok}
use Rattle.cg_grammar.specs.Lines.{IsReadAs, IsRefused, is_blank_line}
use Rattle.cg_query.specs.Trees.{question_of}
use Rattle.cg_query.specs.declared.format.Format.TheVariants as formats
use Rattle.cg_query.specs.declared.query.Line.{Line}
use Rattle.cg_query.specs.declared.query.SyntaxFault.{SyntaxFault}
use Rattle.cg_syntax.proofs.OtherLines.{not_blank, not_both, not_comment}
use Rattle.cg_syntax.proofs.SessionSteps.{column_puts, on_ok_both, question_puts}
use Rattle.cg_syntax.proofs.resolve.put_question.Goals as goal

pub unreachable-requires : goal.unreachable-requires
unreachable-requires c =
    not_both (is_blank_line c.args.line.now) (c.read_line.ensures.blank.0 (c.in-Ok-Blank.is ∙ ap Ok c.in-Ok-Blank.field-0-is))
    (not_blank c.args.line.now c.requires.answered)

pub unreachable-requires-in-Ok-Comment : goal.unreachable-requires-in-Ok-Comment
unreachable-requires-in-Ok-Comment c =
    not_comment c.args.line.now c.requires.answered (c.read_line.ensures.comment.0 (c.in-Ok-Comment.is ∙ ap Ok c.in-Ok-Comment.field-0-is))

pub returns-in-Ok-Ask-clause-puts : goal.returns-in-Ok-Ask-clause-puts
returns-in-Ok-Ask-clause-puts c = on_ok_both c.push.result c.push.ensures.put c.push.ensures.bindings
    (λ p b. question_puts c.args.number c.args.line.now (question_of c.in-Ok-Ask.query) c.args.sheet.now c.push.new.self
    (subst (λ (z : Line). IsReadAs c.args.line.now z) c.in-Ok-Ask.field-0-is c.in-Ok-Ask.ensures.read) p b)

pub returns-in-Err-Syntax-clause-puts : goal.returns-in-Err-Syntax-clause-puts
returns-in-Err-Syntax-clause-puts c = on_ok_both c.push-in-Err-Syntax.result c.push-in-Err-Syntax.ensures.put c.push-in-Err-Syntax.ensures.bindings
    (λ p b. column_puts formats.One c.args.number c.args.line.now c.in-Err-Syntax.column c.args.sheet.now c.push-in-Err-Syntax.new.self
    (subst (λ (z : SyntaxFault). IsRefused c.args.line.now z) c.in-Err-Syntax.field-0-is c.in-Err-Syntax.ensures.refused).at p b)

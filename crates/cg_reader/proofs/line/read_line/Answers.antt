use Rattle.std.proofs.Common.{refl, sym, subst, ◌∙◌}
use Rattle.std.proofs.lemmas.List.{nil_from_length}
use Rattle.cg_grammar.specs.Lines.{ReadsIn}
use Rattle.cg_grammar.proofs.Whole.{blank_line, comment, defines_none}
use Rattle.cg_query.specs.Trees.{statement_of}
use Rattle.cg_query.specs.declared.format.Format.TheVariants as formats
use Rattle.cg_query.specs.declared.query.Statement as code
use Rattle.cg_reader.proofs.StatementAnswers.{blank_comment, comment_blank, neither_blank, neither_comment, line_refused}
use Rattle.cg_reader.proofs.line.read_line.Goals as goal

-- ---- nothing behind the blanks

pub returns-in_default-clause-read : goal.returns-in_default-clause-read
returns-in_default-clause-read c = blank_line c.args.line.now (sym c.after_blanks.ensures.rest ∙ nil_from_length c.after_blanks.result.now
    c.in_default.ensures.cases)

pub returns-in_default-clause-blank : goal.returns-in_default-clause-blank
returns-in_default-clause-blank c = (λ _. returns-in_default-clause-read c, λ _. refl)

pub returns-in_default-clause-comment : goal.returns-in_default-clause-comment
returns-in_default-clause-comment c = blank_comment c.args.line.now (sym c.after_blanks.ensures.rest ∙ nil_from_length c.after_blanks.result.now
    c.in_default.ensures.cases)

-- ---- a comment

pub returns-then-first-eq35-clause-read : goal.returns-then-first-eq35-clause-read
returns-then-first-eq35-clause-read c = comment c.args.line.now c.in-Some.first.now c.in-Some.field-0-1.now (sym c.after_blanks.ensures.rest
    ∙ c.in-Some.ensures.cases.0) c.if-first-eq35.true

pub returns-then-first-eq35-clause-blank : goal.returns-then-first-eq35-clause-blank
returns-then-first-eq35-clause-blank c = comment_blank c.args.line.now c.in-Some.first.now c.in-Some.field-0-1.now (sym c.after_blanks.ensures.rest
    ∙ c.in-Some.ensures.cases.0)

pub returns-then-first-eq35-clause-comment : goal.returns-then-first-eq35-clause-comment
returns-then-first-eq35-clause-comment c = (λ _. returns-then-first-eq35-clause-read c, λ _. refl)

-- ---- a question

pub returns-in-Ok-Ask-clause-blank : goal.returns-in-Ok-Ask-clause-blank
returns-in-Ok-Ask-clause-blank c = neither_blank c.args.line.now c.in-Some.first.now c.in-Some.field-0-1.now _ (sym c.after_blanks.ensures.rest
    ∙ c.in-Some.ensures.cases.0) tt

pub returns-in-Ok-Ask-clause-comment : goal.returns-in-Ok-Ask-clause-comment
returns-in-Ok-Ask-clause-comment c = neither_comment c.args.line.now c.in-Some.first.now c.in-Some.field-0-1.now _ (sym c.after_blanks.ensures.rest
    ∙ c.in-Some.ensures.cases.0) c.if-first-eq35.false tt

pub unreachable-requires : goal.unreachable-requires
unreachable-requires c =
    defines_none c.args.line.now _ _ (subst (λ (z : code.Statement). ReadsIn formats.One c.args.line.now (statement_of z)) c.in-Ok-Define.field-0-is
    c.in-Ok-Define.ensures.read)

-- ---- nothing was read

pub returns-in-Err-clause-blank : goal.returns-in-Err-clause-blank
returns-in-Err-clause-blank c = neither_blank c.args.line.now c.in-Some.first.now c.in-Some.field-0-1.now _ (sym c.after_blanks.ensures.rest
    ∙ c.in-Some.ensures.cases.0) tt

pub returns-in-Err-clause-comment : goal.returns-in-Err-clause-comment
returns-in-Err-clause-comment c = neither_comment c.args.line.now c.in-Some.first.now c.in-Some.field-0-1.now _ (sym c.after_blanks.ensures.rest
    ∙ c.in-Some.ensures.cases.0) c.if-first-eq35.false tt

pub returns-in-Err-clause-refused : goal.returns-in-Err-clause-refused
returns-in-Err-clause-refused c = line_refused c.args.line.now c.in-Some.first.now c.in-Some.field-0-1.now c.in-Err.fault (sym c.after_blanks.ensures.rest
    ∙ c.in-Some.ensures.cases.0) c.if-first-eq35.false c.in-Err.ensures.refused

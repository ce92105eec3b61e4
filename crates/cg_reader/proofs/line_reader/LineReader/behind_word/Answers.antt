use Rattle.std.proofs.Common.{ap, sym, subst}
use Rattle.cg_reading.specs.Gives.{Gives}
use Rattle.cg_grammar.specs.Reading.{Kind, behind_word_at}
use Rattle.cg_reader.specs.Statements.{kind_view, stated_view}
use Rattle.cg_reader.proofs.line_reader.LineReader.behind_word.Goals as goal

pub returns-in-One : goal.returns-in-One
returns-in-One c =
    let P : Kind → Type 0 = λ k. Gives (λ x. (stated_view x.0, x.1.now)) c.behind_one.result
    (behind_word_at c.args.self.format c.args.word.now k c.args.self.line_end c.args.bytes.now) in
    subst P (sym (ap kind_view c.in-One.is)) (c.behind_one.ensures c.args.word.now)

pub returns-in-Two : goal.returns-in-Two
returns-in-Two c =
    let P : Kind → Type 0 = λ k. Gives (λ x. (stated_view x.0, x.1.now)) c.behind_two.result
    (behind_word_at c.args.self.format c.args.word.now k c.args.self.line_end c.args.bytes.now) in
    subst P (sym (ap kind_view c.in-Two.is)) (c.behind_two.ensures c.args.word.now)

pub returns-in-Check : goal.returns-in-Check
returns-in-Check c =
    let P : Kind → Type 0 = λ k. Gives (λ x. (stated_view x.0, x.1.now)) c.behind_check.result
    (behind_word_at c.args.self.format c.args.word.now k c.args.self.line_end c.args.bytes.now) in
    subst P (sym (ap kind_view c.in-Check.is)) (c.behind_check.ensures c.args.word.now)

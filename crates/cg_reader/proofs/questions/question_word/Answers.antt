use Rattle.std.specs.Prelude.{map}
use Rattle.cg_reading.proofs.WordSteps.{gives_word}
use Rattle.cg_grammar.specs.Reading.{question_word_at}
use Rattle.cg_reader.specs.Statements.{kind_view}
use Rattle.cg_reader.specs.declared.questions.TheConstants.{QUESTIONS}
use Rattle.cg_reader.proofs.questions.question_word.Goals as goal

pub returns-clause-read : goal.returns-clause-read
unfolding question_word_at
returns-clause-read c end = gives_word kind_view (λ x. (x.0, x.1.now)) c.word_of.result (map (λ w. (w.0.now, w.1)) QUESTIONS) end c.args.bytes.now
    (c.word_of.ensures.read end)

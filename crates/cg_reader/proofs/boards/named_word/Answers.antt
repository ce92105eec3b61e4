use Rattle.std.specs.Prelude.{map}
use Rattle.cg_reading.proofs.WordSteps.{gives_word}
use Rattle.cg_grammar.specs.OperandReading.{named_word_at}
use Rattle.cg_reader.specs.Named.{named_view}
use Rattle.cg_reader.specs.declared.boards.TheConstants.{NAMED}
use Rattle.cg_reader.proofs.boards.named_word.Goals as goal

pub returns-clause-read : goal.returns-clause-read
unfolding named_word_at
returns-clause-read c end = gives_word named_view (λ x. (x.0, x.1.now)) c.word_of.result (map (λ w. (w.0.now, w.1)) NAMED) end c.args.bytes.now
    (c.word_of.ensures.read end)

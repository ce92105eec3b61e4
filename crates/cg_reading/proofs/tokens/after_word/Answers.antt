use Rattle.std.proofs.Common.{sym, ◌∙◌}
use Rattle.cg_reading.specs.TokenReaders.{this_word_at}
use Rattle.cg_reading.proofs.Words.{word_ends}
use Rattle.cg_reading.proofs.tokens.after_word.Goals as goal

pub returns-in_default-clause-read : goal.returns-in_default-clause-read
unfolding this_word_at
returns-in_default-clause-read c end =
    sym (c.loop-want.invariant.same end) ∙ word_ends end c.args.word.now c.loop-want.rest.now c.loop-want.want-index c.loop-want-test.true c.in_default.ensures.cases

use Rattle.std.proofs.Common.{◌+◌, drop, sym, subst, ap, ◌∙◌, arith, Err}
use Rattle.std.specs.Prelude.{min}
use Rattle.cg_reading.specs.Gives.{Fails}
use Rattle.cg_reading.specs.TokenReaders.{this_word_at}
use Rattle.cg_reading.specs.Words.{either_read, among_at, words_of}
use Rattle.cg_reading.proofs.WordSteps.{nothing_before, word_found, word_stuck, words_at}
use Rattle.cg_reading.proofs.WordTables.{among_left}
use Rattle.cg_reading.proofs.tokens.word_of.Goals as goal

pub loop-entry-init : goal.loop-entry-init
loop-entry-init g c = record {
  same = λ end. nothing_before _ _ (among_left (words_of c.args.table.now) end c.args.bytes.now);
  bound = omega arith;
}

pub returns-in-Ok-clause-read : goal.returns-in-Ok-clause-read
returns-in-Ok-clause-read g c end =
    let here = words_at c.args.table.now c.loop-entry.entry-index c.entry-item.result c.loop-entry-test.true c.entry-item.is in
    sym (c.loop-entry.invariant.same end) ∙ ap (λ ws. either_read (Err c.loop-entry.left) (among_at ws end c.args.bytes.now)) here
    ∙ word_found _ _ (words_of (drop (c.loop-entry.entry-index + 1) c.args.table.now)) c.loop-entry.left end c.args.bytes.now c.in-Ok.rest.now (c.in-Ok.ensures.read end)

pub loop-entry-preserved : goal.loop-entry-preserved
loop-entry-preserved g c =
    let here = words_at c.args.table.now c.loop-entry.entry-index c.entry-item.result c.loop-entry-test.true c.entry-item.is in
    record {
      same = λ end. sym (sym (c.loop-entry.invariant.same end) ∙ ap (λ ws. either_read (Err c.loop-entry.left) (among_at ws end c.args.bytes.now)) here
          ∙ word_stuck _ _ (words_of (drop (c.loop-entry.entry-index + 1) c.args.table.now)) c.loop-entry.left end c.args.bytes.now c.in-Err-Stuck.here c.min-left.result (c.min-left.ensures ∙ ap (λ n. min c.loop-entry.left n) c.in-Err-Stuck.here-is) (subst (λ e. Fails e (this_word_at c.entry-item.result.0.now end c.args.bytes.now)) c.in-Err-Stuck.field-0-is (c.in-Err-Stuck.ensures.read end)));
      bound = omega (arith, c.loop-entry.invariant.bound);
    }

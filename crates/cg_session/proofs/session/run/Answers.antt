use Rattle.std.proofs.Common.{◌≡◌, inl, inr, false, [], refl, sym, subst, arith}
use Rattle.std.specs.Prelude.{MatchOption, is_err}
use Rattle.std.proofs.KnownBytes.{Keeps-refl}
use Rattle.cg_syntax.specs.Session.{answered_lines}
use Rattle.cg_session.specs.Kept.{KeepsSession}
use Rattle.cg_session.specs.Output.{IsWritten}
use Rattle.cg_session.specs.Outputs.{output_of}
use Rattle.cg_session.specs.Settings.{IsWithinLimits}
use Rattle.cg_session.specs.Words.{texts}
use Rattle.cg_session.proofs.Endings.{lacks_memory}
use Rattle.cg_session.proofs.Wholes.{on_ok, session_of, whole_refused}
use Rattle.cg_session.proofs.session.run.Goals as goal

pub returns-in-Err-Memory-clause-written : goal.returns-in-Err-Memory-clause-written
returns-in-Err-Memory-clause-written g c =
    lacks_memory (texts c.args.words.now) (g.S.Source.left c.args.source.now) (g.S.Source.left c.args.source.now)
    (g.K.Sink.taken c.args.sink.now) (g.K.Sink.taken c.args.sink.now) (Keeps-refl (g.K.Sink.taken c.args.sink.now))

pub returns-in-Ok-write_all-clause-written : goal.returns-in-Ok-write_all-clause-written
returns-in-Ok-write_all-clause-written g c =
    inr (c.in-Err-Usage.ensures.refused c.in-Err-Usage.field-0-is, c.in-Ok-write_all.ensures.whole)

pub returns-then-answers-eq0-clause-session : goal.returns-then-answers-eq0-clause-session
returns-then-answers-eq0-clause-session g c =
    let same = c.in-Ok.ensures.accepted.values in
    let text = c.in-Ok-session_text.text.items in
    let out = output_of c.in-Ok-Some.answers.output in
    let fine : is_err c.write_all-2.result ≡ false = sym c.if-is_err.ensures.value in
    let within : IsWithinLimits c.in-Ok.settings c.deref.result.now = rw c.in-Ok-Some.field-0-is at c.in-Ok-Some.ensures.within in
    let written : IsWritten c.in-Ok.settings c.deref.result.now out = rw c.in-Ok-Some.field-0-is at c.in-Ok-Some.ensures.written in
    let kept : MatchOption c.in-Ok-Some.answers.kept (answered_lines c.deref.result.now ≡ []) (λ k. KeepsSession c.in-Ok.settings c.deref.result.now
    k.answers.items k.cells k.pass) = rw c.in-Ok-Some.field-0-is at c.in-Ok-Some.ensures.kept in (
      text,
      session_of c.in-Ok.settings _ (g.S.Source.left c.args.source.now) (g.K.Sink.taken c.args.sink.now) (g.K.Sink.taken c.write_all-2.new.sink) text
          c.deref.result.now c.deref-2.result.now out same c.deref.ensures.value c.deref-2.ensures.value c.in-Ok-session_text.ensures.text
          within written (on_ok c.write_all-2.result _ fine c.write_all-2.ensures.whole)
          _ _ _ (on_ok c.write_all-2.result _ fine c.write_all-2.ensures.counted) (λ _. c.if-answers-eq0.true, λ _. refl),
      subst (λ s. MatchOption c.in-Ok-Some.answers.kept (answered_lines text ≡ []) (λ k. KeepsSession s text k.answers.items k.cells k.pass)) same
          (subst (λ l. MatchOption c.in-Ok-Some.answers.kept (answered_lines l ≡ []) (λ k. KeepsSession c.in-Ok.settings l k.answers.items k.cells k.pass))
          c.deref.ensures.value kept),
    )

pub returns-clause-session : goal.returns-clause-session
returns-clause-session g c =
    let same = c.in-Ok.ensures.accepted.values in
    let text = c.in-Ok-session_text.text.items in
    let out = output_of c.in-Ok-Some.answers.output in
    let fine : is_err c.write_all-2.result ≡ false = sym c.if-is_err.ensures.value in
    let within : IsWithinLimits c.in-Ok.settings c.deref.result.now = rw c.in-Ok-Some.field-0-is at c.in-Ok-Some.ensures.within in
    let written : IsWritten c.in-Ok.settings c.deref.result.now out = rw c.in-Ok-Some.field-0-is at c.in-Ok-Some.ensures.written in
    let kept : MatchOption c.in-Ok-Some.answers.kept (answered_lines c.deref.result.now ≡ []) (λ k. KeepsSession c.in-Ok.settings c.deref.result.now
    k.answers.items k.cells k.pass) = rw c.in-Ok-Some.field-0-is at c.in-Ok-Some.ensures.kept in (
      text,
      session_of c.in-Ok.settings _ (g.S.Source.left c.args.source.now) (g.K.Sink.taken c.args.sink.now) (g.K.Sink.taken c.write_all-2.new.sink) text
          c.deref.result.now c.deref-2.result.now out same c.deref.ensures.value c.deref-2.ensures.value c.in-Ok-session_text.ensures.text
          within written (on_ok c.write_all-2.result _ fine c.write_all-2.ensures.whole)
          _ _ _ (on_ok c.write_all-2.result _ fine c.write_all-2.ensures.counted) (λ wrong. absurd (let no : ⊥ = cc wrong in no), λ none. absurd (c.if-answers-eq0.false none)),
      subst (λ s. MatchOption c.in-Ok-Some.answers.kept (answered_lines text ≡ []) (λ k. KeepsSession s text k.answers.items k.cells k.pass)) same
          (subst (λ l. MatchOption c.in-Ok-Some.answers.kept (answered_lines l ≡ []) (λ k. KeepsSession c.in-Ok.settings l k.answers.items k.cells k.pass))
          c.deref.ensures.value kept),
    )

pub returns-clause-written : goal.returns-clause-written
returns-clause-written g c =
    let same = c.in-Ok.ensures.accepted.values in
    let text = c.in-Ok-session_text.text.items in
    let out = output_of c.in-Ok-Some.answers.output in
    let fine : is_err c.write_all-2.result ≡ false = sym c.if-is_err.ensures.value in
    let within : IsWithinLimits c.in-Ok.settings c.deref.result.now = rw c.in-Ok-Some.field-0-is at c.in-Ok-Some.ensures.within in
    let written : IsWritten c.in-Ok.settings c.deref.result.now out = rw c.in-Ok-Some.field-0-is at c.in-Ok-Some.ensures.written in
    let some = c.if-answers-eq0.false in
    inl (
      c.in-Ok.ensures.accepted.taken,
      whole_refused c.in-Ok.settings _ (g.S.Source.left c.args.source.now) (g.K.Sink.taken c.args.sink.now) (g.K.Sink.taken c.write_all-2.new.sink) text
          c.deref.result.now c.deref-2.result.now out same c.deref.ensures.value c.deref-2.ensures.value c.in-Ok-session_text.ensures.text
          within written (on_ok c.write_all-2.result _ fine c.write_all-2.ensures.whole)
          (g.S.Source.left c.session_text.new.source) c.in-Ok-session_text.ensures.all (omega arith),
    )

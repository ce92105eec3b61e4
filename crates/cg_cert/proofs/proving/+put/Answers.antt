use Rattle.std.proofs.Common.{rules, refl, ap, sym, ◌∙◌, ℕ, List, [], ◌∷◌, ◌++◌, Err, decimal, string_bytes}
use Rattle.std.specs.Prelude.{codes}
use Rattle.std.proofs.lemmas.Result.{err_from_is_err_and}
use Rattle.cg_cert.specs.Certificate.{answer_in, answers_text, certificate_text, no_answers}
use Rattle.cg_cert.specs.First.{first_answers, first_proof, with_first}
use Rattle.cg_cert.specs.Pairs.{moves}
use Rattle.cg_cert.specs.Positions.{stage_at}
use Rattle.cg_cert.proofs.Heights.{led-lower}
use Rattle.cg_cert.proofs.Moving.{move_answer, no_answer}
use Rattle.cg_cert.proofs.Writing.{answer_text-letter, answered-text, left_text, putting_all, putting_fault, putting_more}
use Rattle.cg_cert.proofs.Writing.{reply_text, settled-text, wrote_along, wrote_exit, wrote_fault, wrote_nothing}
use Rattle.cg_cert.proofs.proving.+put.Goals as goal

pub put_move-returns-in_err-put-clause-wrote : goal.put_move-returns-in_err-put-clause-wrote
put_move-returns-in_err-put-clause-wrote g t c =
    let p = err_from_is_err_and c.from_residual-in_err-put.result c.from_residual-in_err-put.ensures.1 in
    let fault = c.in_err-put.field-0.0 in
    let limit = c.args.limit in
    let old : List ℕ = string_bytes c.args.text.now in
    let new : List ℕ = string_bytes c.put.new.text in
    let piece : List ℕ = c.args.letter.now ++ decimal c.args.place in
    let proof : List ℕ = certificate_text (first_proof (stage_at c.args.work.now.arena c.args.leads.now)) in
    wrote_exit c.from_residual-in_err-put.result p.0 fault limit old new (piece ++ proof) p.1 p.2
    (wrote_fault fault limit old new new piece proof
    (wrote_along (Err fault) limit old new c.as_str.result.now piece (c.as_str.ensures.value ∙ c.in_ok-answer.ensures.ok)
    c.in_err-put.ensures))

pub put_reply-put_move-requires : goal.put_reply-put_move-requires
put_reply-put_move-requires g t c κs within =
    let m = stage_at c.args.work.now.arena c.args.stage.now in
    let r = rw c.in-Some.is at c.in_ok-first_move.ensures.found in
    let found = c.in-Some.found in
    let led = (move_answer m found.is_first found.place _ _ r.0).1 in
    let lower = led-lower (answer_in found.is_first found.place) m (stage_at c.args.work.now.arena found.leads) led in
    rw c.first_move.ensures.same (search rules, (within.0, (within.1.0, (within.1.1, (r.1, c.requires.within)))))

pub put_reply-returns-in-None-clause-wrote : goal.put_reply-returns-in-None-clause-wrote
put_reply-returns-in-None-clause-wrote g t c =
    let m = stage_at c.args.work.now.arena c.args.stage.now in
    let r = rw c.in-None.is at c.in_ok-first_move.ensures.found in
    let text : List ℕ = string_bytes c.args.text.now in
    wrote_nothing c.args.limit text text (answers_text (first_answers first_proof (m ∷ []))) refl
    (ap (λ o. answers_text (with_first first_proof m o no_answers)) (no_answer m r.0 r.1)) c.requires.within

pub put_reply-returns-in-Some-clause-wrote : goal.put_reply-returns-in-Some-clause-wrote
put_reply-returns-in-Some-clause-wrote g t c =
    let arena = c.args.work.now.arena in
    let m = stage_at arena c.args.stage.now in
    let r = rw c.in-Some.is at c.in_ok-first_move.ensures.found in
    let found = c.in-Some.found in
    let n = stage_at arena found.leads in
    let a = move_answer m found.is_first found.place _ _ r.0 in
    wrote_along c.put_move.result c.args.limit (string_bytes c.args.text.now) (string_bytes c.put_move.new.text)
    ((c.letter-word.result.now ++ decimal found.place) ++ certificate_text (first_proof n))
    (answers_text (first_answers first_proof (m ∷ [])))
    (ap (λ z. (z ++ decimal found.place) ++ certificate_text (first_proof n)) c.letter-word.ensures
    ∙ reply_text m n (answer_in found.is_first found.place) _ found.place a.0 a.1 (answer_text-letter found.is_first found.place))
    (rw c.first_move.ensures.same at c.put_move.ensures.wrote)

pub put_proof-returns-then-both_numbers-clause-wrote : goal.put_proof-returns-then-both_numbers-clause-wrote
put_proof-returns-then-both_numbers-clause-wrote g t c =
    let m = stage_at c.args.work.now.arena c.args.stage.now in
    wrote_along c.put.result c.args.limit (string_bytes c.args.text.now) (string_bytes c.put.new.text) (codes ".")
    (certificate_text (first_proof m)) (settled-text m (sym c.both_numbers.ensures ∙ c.if-both_numbers.true)) c.put.ensures

pub put_proof-returns-in_err-put-clause-wrote : goal.put_proof-returns-in_err-put-clause-wrote
put_proof-returns-in_err-put-clause-wrote g t c =
    let p = err_from_is_err_and c.from_residual.result c.from_residual.ensures.1 in
    let m = stage_at c.args.work.now.arena c.args.stage.now in
    let fault = c.in_err-put.field-0.0 in
    let limit = c.args.limit in
    let old : List ℕ = string_bytes c.args.text.now in
    let new : List ℕ = string_bytes c.put-2.new.text in
    wrote_exit c.from_residual.result p.0 fault limit old new (certificate_text (first_proof m)) p.1 p.2
    (wrote_along (Err fault) limit old new (codes "(" ++ left_text (moves m)) (certificate_text (first_proof m))
    (answered-text m (sym c.both_numbers.ensures ∙ c.if-both_numbers.false))
    (wrote_fault fault limit old new new (codes "(") (left_text (moves m)) c.in_err-put.ensures))

pub put_proof-loop-next-init : goal.put_proof-loop-next-init
put_proof-loop-next-init g t c = (
  refl,
  rw c.as_slice-rest.ensures.value (putting_all _ _ _ _ _ _ (sym c.both_numbers.ensures ∙ c.if-both_numbers.false)
      c.in_ok-all.ensures.0 c.in_ok-all.ensures.1 c.in_ok-put.ensures),
)

pub put_proof-returns-in_err-put_reply-clause-wrote : goal.put_proof-returns-in_err-put_reply-clause-wrote
put_proof-returns-in_err-put_reply-clause-wrote g t c =
    let p = err_from_is_err_and c.from_residual-in_err-put_reply.result c.from_residual-in_err-put_reply.ensures.1 in
    let new : List ℕ = string_bytes c.put_reply.new.text in
    wrote_exit c.from_residual-in_err-put_reply.result p.0 c.in_err-put_reply.field-0.0 c.args.limit
    (string_bytes c.args.text.now) new _ p.1 p.2
    (putting_fault _ _ _ _ _ c.in-Some.others.now c.in-Some.next.now (rw c.in-Some.ensures.cases.0 at c.loop-next.invariant.1)
    c.in_err-put_reply.field-0.0 new new (rw c.loop-next.invariant.0 at c.in_err-put_reply.ensures.wrote))

pub put_proof-loop-next-preserved : goal.put_proof-loop-next-preserved
put_proof-loop-next-preserved g t c = (
  c.put_reply.ensures.same ∙ c.loop-next.invariant.0,
  putting_more _ _ _ _ _ c.in-Some.others.now c.in-Some.next.now (rw c.in-Some.ensures.cases.0 at c.loop-next.invariant.1)
      (string_bytes c.put_reply.new.text) (rw c.loop-next.invariant.0 at c.in_ok-put_reply.ensures.wrote),
)

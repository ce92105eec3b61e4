use Rattle.std.proofs.Common.{◌++◌, ◌∙◌, ap, decimal, refl, string_bytes, sym, List, ℕ}
use Rattle.cg_cert.specs.declared.stage.Stage.{Stage}
use Rattle.cg_cert.specs.Answer.{refusal_text}
use Rattle.cg_cert.specs.Certificate.{certificate_text}
use Rattle.cg_cert.specs.First.{first_proof}
use Rattle.cg_cert.specs.Positions.{stage_at}
use Rattle.cg_cert.proofs.Moving.{move_right, no_right, refused_by}
use Rattle.cg_cert.proofs.Writing.{wrote_along, wrote_nothing}
use Rattle.cg_cert.proofs.proving.put_refusal.Goals as goal

pub returns-in-None-clause-wrote : goal.returns-in-None-clause-wrote
returns-in-None-clause-wrote g c =
    let m = stage_at c.args.work.now.arena c.args.stage.now in
    let r = rw c.in-None.is at c.in_ok-first_move.ensures.found in
    wrote_nothing c.args.limit (string_bytes c.args.text.now) (string_bytes c.args.text.now) (refusal_text m) refl
    (sym (refused_by m (sym c.both_numbers.ensures ∙ c.if-both_numbers.false)) ∙ no_right m r.0 r.1)
    c.requires.within

pub returns-in-Some-clause-wrote : goal.returns-in-Some-clause-wrote
returns-in-Some-clause-wrote g c =
    let arena = c.args.work.now.arena in
    let m = stage_at arena c.args.stage.now in
    let r = rw c.in-Some.is at c.in_ok-first_move.ensures.found in
    let found = c.in-Some.found in
    let n : Stage = record { first = found.leads.second; second = found.leads.first } in
    let proof : List ℕ = certificate_text (first_proof (stage_at arena n)) in
    wrote_along c.put_move.result c.args.limit (string_bytes c.args.text.now) (string_bytes c.put_move.new.text)
    ((c.letter-word.result.now ++ decimal found.place) ++ proof) (refusal_text m)
    (ap (λ z. (z ++ decimal found.place) ++ proof) c.letter-word.ensures
    ∙ move_right m found.is_first found.place _ _ r.0
    ∙ refused_by m (sym c.both_numbers.ensures ∙ c.if-both_numbers.false))
    (rw c.first_move.ensures.same at c.put_move.ensures.wrote)

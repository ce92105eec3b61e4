use Rattle.std.proofs.Common.{Ok, ap, string_bytes, sym, refl, ◌∙◌}
use Rattle.std.specs.Prelude.{codes}
use Rattle.cg_form.specs.Order.{le}
use Rattle.cg_nodes.specs.Games.{game_at}
use Rattle.cg_canon.specs.Works.{work_state}
use Rattle.cg_cert.specs.Answer.{first_text, refusal_text}
use Rattle.cg_cert.specs.Certificate.{certificate_text}
use Rattle.cg_cert.specs.First.{first_proof}
use Rattle.cg_cert.specs.Pairs.{Pair, pair}
use Rattle.cg_cert.proofs.AnswerWords.{answer_no, answer_yes, proved_ok}
use Rattle.cg_cert.proofs.Writing.{wrote_from}
use Rattle.cg_cert.proofs.proving.prove.Goals as goal

pub returns-then-branch-clause-proved : goal.returns-then-branch-clause-proved
returns-then-branch-clause-proved g c =
    let s = work_state g.S.CellStore.state c.args.work.now in
    let first = game_at s c.args.g in
    let second = game_at s c.args.h in
    let pair = c.in_ok-stage.ensures.pair in
    proved_ok first second (codes "yes ") (first_text first second) 4
    (answer_yes first second (sym (ap (λ (z : Pair). le z.second z.first) pair) ∙ sym c.in_ok-no_better.ensures.order ∙ c.if-branch.true))
    c.put_proof.new.text
    (wrote_from (Ok tt) 65540 65540 (string_bytes c.in_ok-text.text) (codes "yes ") (string_bytes c.put_proof.new.text) _
    (first_text first second) refl c.in_ok-text.ensures.ok
    (ap (λ z. certificate_text (first_proof z)) pair) (rw c.no_better.ensures.same at c.in_ok-put_proof.ensures.wrote))

pub returns-clause-proved : goal.returns-clause-proved
returns-clause-proved g c =
    let s = work_state g.S.CellStore.state c.args.work.now in
    let first = game_at s c.args.g in
    let second = game_at s c.args.h in
    let same = c.in_ok-stage.ensures.pair in
    proved_ok first second (codes "no ") (refusal_text (pair first second)) 3
    (answer_no first second (sym (ap (λ (z : Pair). le z.second z.first) same) ∙ sym c.in_ok-no_better.ensures.order ∙ c.if-branch.false))
    c.put_refusal.new.text
    (wrote_from (Ok tt) 65539 65539 (string_bytes c.in_ok-text-2.text) (codes "no ")
    (string_bytes c.put_refusal.new.text) _ (refusal_text (pair first second)) refl
    c.in_ok-text-2.ensures.ok (ap refusal_text same) (rw c.no_better.ensures.same at c.in_ok-put_refusal.ensures.wrote))

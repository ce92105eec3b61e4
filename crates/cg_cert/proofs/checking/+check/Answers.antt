use Rattle.std.proofs.Common.{refl, sym, ◌∙◌, ◌+◌, ◌-◌, drop, length, take, rules}
use Rattle.cg_cert.specs.Certificate.{answer_in}
use Rattle.cg_cert.specs.Positions.{stage_at}
use Rattle.cg_cert.proofs.AnswerTexts.{lettered, reads_no_letter, reads_no_place}
use Rattle.cg_cert.proofs.CheckSteps.{answer_then, checking_all, checking_end, checking_more, checking_no_bracket, checking_stop}
use Rattle.cg_cert.proofs.Heights.{led-lower}
use Rattle.cg_cert.proofs.checking.+check.Goals as goal

pub check_proof-returns-in_default-clause-reads : goal.check_proof-returns-in_default-clause-reads
check_proof-returns-in_default-clause-reads g t c =
    checking_no_bracket (stage_at c.args.work.now.arena c.args.stage.now) (drop c.args.at c.args.bytes.now)
    (sym c.both_numbers.ensures ∙ c.if-both_numbers.false) c.in_default.ensures.reads

pub check_proof-loop-next-init : goal.check_proof-loop-next-init
check_proof-loop-next-init g t c = (
  refl,
  rw c.as_slice-rest.ensures.value (checking_all _ _ _ _ _ (sym c.both_numbers.ensures ∙ c.if-both_numbers.false)
      c.in_ok-all.ensures.0 c.in_ok-all.ensures.1 c.in-Some.ensures.reads),
)

pub check_proof-returns-in-None-clause-reads : goal.check_proof-returns-in-None-clause-reads
check_proof-returns-in-None-clause-reads g t c =
    checking_stop _ _ _ _ c.in-Some-split_first.others.now c.in-Some-split_first.next.now
    (rw c.in-Some-split_first.ensures.cases.0 at c.loop-next.invariant.1)
    (rw (c.in-None.is, c.loop-next.invariant.0) at c.in_ok-check_reply.ensures.reads)

pub check_proof-loop-next-preserved : goal.check_proof-loop-next-preserved
check_proof-loop-next-preserved g t c = (
  c.check_reply.ensures.same ∙ c.loop-next.invariant.0,
  checking_more _ _ _ _ c.in-Some-split_first.others.now c.in-Some-split_first.next.now
      (rw c.in-Some-split_first.ensures.cases.0 at c.loop-next.invariant.1) (drop c.in-Some-2.end c.args.bytes.now)
      (rw (c.in-Some-2.is, c.loop-next.invariant.0) at c.in_ok-check_reply.ensures.reads),
)

pub check_proof-returns-clause-reads : goal.check_proof-returns-clause-reads
check_proof-returns-clause-reads g t c =
    checking_end _ _ _ _ _ _ c.loop-next.invariant.1 c.in_default-split_first.ensures.cases c.after-2.ensures.reads

pub check_reply-returns-in_default-clause-reads : goal.check_reply-returns-in_default-clause-reads
check_reply-returns-in_default-clause-reads g t c =
    reads_no_letter (stage_at c.args.work.now.arena c.args.stage.now) (drop c.args.at c.args.bytes.now)
    c.in_default.ensures.letter.0 c.in_default.ensures.letter.1

pub check_reply-check_proof-requires : goal.check_reply-check_proof-requires
check_reply-check_proof-requires g t c κs within =
    let arena = c.args.work.now.arena in
    let h = rw c.in-Some-2.is at c.in_ok-led.ensures in
    let k = led-lower (answer_in c.in-Some.letter.is_first h.1.place) (stage_at arena c.args.stage.now)
    (stage_at arena c.in-Some-2.leads) h.1.leads in
    (search rules, (within.0, (within.1.0, (within.1.1, h.0))))

pub check_reply-returns-in-None-clause-reads : goal.check_reply-returns-in-None-clause-reads
check_reply-returns-in-None-clause-reads g t c =
    let b = c.in-Some.letter.is_first in
    let end = c.in-Some.letter.end in
    let bytes = c.args.bytes.now in
    let digits = c.digits_front-digits.result.now in
    reads_no_place (stage_at c.args.work.now.arena c.args.stage.now) b (drop c.args.at bytes) (drop end bytes) digits
    (drop (end + length digits) bytes)
    (lettered bytes (take (length bytes - end) (drop end bytes)) digits c.args.at end b c.in-Some.ensures.letter refl
    c.digits_front-digits.ensures)
    (rw c.in-None.is at c.in_ok-led.ensures)

pub check_reply-returns-in-Some-2-clause-reads : goal.check_reply-returns-in-Some-2-clause-reads
check_reply-returns-in-Some-2-clause-reads g t c =
    let arena = c.args.work.now.arena in
    let b = c.in-Some.letter.is_first in
    let end = c.in-Some.letter.end in
    let bytes = c.args.bytes.now in
    let digits = c.digits_front-digits.result.now in
    let h = rw c.in-Some-2.is at c.in_ok-led.ensures in
    answer_then (stage_at arena c.args.stage.now) (stage_at arena c.in-Some-2.leads) b (drop c.args.at bytes) (drop end bytes)
    digits (drop (end + length digits) bytes) bytes c.check_proof.result
    (lettered bytes (take (length bytes - end) (drop end bytes)) digits c.args.at end b c.in-Some.ensures.letter refl
    c.digits_front-digits.ensures) h.1 c.check_proof.ensures.reads

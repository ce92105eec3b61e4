use Rattle.std.specs.Prelude.{Err}
use Rattle.cg_canon.specs.Works.{work_state}
use Rattle.cg_query.specs.Trees.{question_of}
use Rattle.cg_eval.specs.Faults.{question_fault}
use Rattle.cg_eval.specs.Refused.{IsRefusedBy, IsRefusedOver}
use Rattle.cg_eval.specs.Reply.{ill_formed}
use Rattle.cg_eval.specs.Shown.{Answers, IsAnswered}
use Rattle.cg_eval.specs.declared.fault.NoValue.TheVariants.{IllFormed, Refused}
use Rattle.cg_eval.proofs.Replies.{answered-ill_formed, answered-made, answered-refused, if_ok_map}
use Rattle.cg_eval.proofs.reply.reply_on.Goals as goal

pub returns-in-Ok-clause-reply : goal.returns-in-Ok-clause-reply
returns-in-Ok-clause-reply g c =
    answered-made (work_state g.S.CellStore.state c.args.work.now)
    (work_state g.S.CellStore.state c.answer_question.new.work) (question_of c.args.query.now) c.in-Ok.answered
    c.requires c.in-Ok.ensures

pub returns-in-Ok-clause-keeps : goal.returns-in-Ok-clause-keeps
returns-in-Ok-clause-keeps g c = c.in-Ok.ensures.1.1.keeps

pub returns-in-Err-IllFormed-clause-reply : goal.returns-in-Err-IllFormed-clause-reply
returns-in-Err-IllFormed-clause-reply g c =
    let s = work_state g.S.CellStore.state c.args.work.now in
    let t = work_state g.S.CellStore.state c.answer_question.new.work in
    let q = question_of c.args.query.now in
    let why : Answers s t q (Err (IllFormed c.in-Err-IllFormed.fault)) =
    rw c.in-Err-IllFormed.field-0-is at c.in-Err-IllFormed.ensures in
    if_ok_map (IsRefusedBy (ill_formed c.in-Err-IllFormed.fault)) (IsAnswered s.rest.share s.rest.limit t q)
    c.refuse_board.result
    (λ a h. answered-ill_formed s.rest.share s.rest.limit t q a c.in-Err-IllFormed.fault why.0 h) c.refuse_board.ensures

pub returns-in-Err-IllFormed-clause-keeps : goal.returns-in-Err-IllFormed-clause-keeps
returns-in-Err-IllFormed-clause-keeps g c =
    let s = work_state g.S.CellStore.state c.args.work.now in
    let t = work_state g.S.CellStore.state c.answer_question.new.work in
    let why : Answers s t (question_of c.args.query.now) (Err (IllFormed c.in-Err-IllFormed.fault)) =
    rw c.in-Err-IllFormed.field-0-is at c.in-Err-IllFormed.ensures in
    why.1

pub returns-in-Err-Refused-clause-reply : goal.returns-in-Err-Refused-clause-reply
returns-in-Err-Refused-clause-reply g c =
    let s = work_state g.S.CellStore.state c.args.work.now in
    let t = work_state g.S.CellStore.state c.answer_question.new.work in
    let q = question_of c.args.query.now in
    let why : Answers s t q (Err (Refused c.in-Err-Refused.fault)) =
    rw c.in-Err-Refused.field-0-is at c.in-Err-Refused.ensures in
    if_ok_map (IsRefusedOver (question_fault q) c.in-Err-Refused.fault) (IsAnswered s.rest.share s.rest.limit t q)
    c.refuse_item.result (λ a h. answered-refused s t q a c.in-Err-Refused.fault c.requires why h) c.refuse_item.ensures

pub returns-in-Err-Refused-clause-keeps : goal.returns-in-Err-Refused-clause-keeps
returns-in-Err-Refused-clause-keeps g c =
    let s = work_state g.S.CellStore.state c.args.work.now in
    let t = work_state g.S.CellStore.state c.answer_question.new.work in
    let why : Answers s t (question_of c.args.query.now) (Err (Refused c.in-Err-Refused.fault)) =
    rw c.in-Err-Refused.field-0-is at c.in-Err-Refused.ensures in
    why.keeps

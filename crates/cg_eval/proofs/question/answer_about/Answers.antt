use Rattle.std.proofs.lemmas.Result.{err_from_is_err_and}
use Rattle.cg_canon.specs.Works.{work_state}
use Rattle.cg_canon.specs.declared.fault.ValueFault.TheVariants.{Memory}
use Rattle.cg_query.specs.Trees.{tree_of}
use Rattle.cg_eval.specs.Parts.{asked_of}
use Rattle.cg_eval.specs.Shown.{Answers}
use Rattle.cg_eval.specs.declared.fault.NoValue.TheVariants.{Refused}
use Rattle.cg_eval.proofs.Steps.{passed_on}
use Rattle.cg_eval.proofs.Told.{answers-halted, answers-memory, answers-told}
use Rattle.cg_eval.proofs.question.answer_about.Goals as goal

pub returns-in_err-value : goal.returns-in_err-value
returns-in_err-value g c =
    let s = work_state g.S.CellStore.state c.args.work.now in
    let t = work_state g.S.CellStore.state c.evaluate.new.work in
    let e = tree_of c.args.expr.now in
    let p = err_from_is_err_and c.from_residual.result c.from_residual.ensures.1 in
    passed_on (Answers s t (asked_of c.args.asked e)) c.from_residual.result p.0 c.in_err-value.field-0.0 p.1 p.2
    (answers-halted s t c.args.asked e c.in_err-value.field-0.0 c.in_err-value.ensures)

pub returns-in_err-told : goal.returns-in_err-told
returns-in_err-told g c =
    let s = work_state g.S.CellStore.state c.args.work.now in
    let t = work_state g.S.CellStore.state c.evaluate.new.work in
    let u = work_state g.S.CellStore.state c.tell.new.work in
    let e = tree_of c.args.expr.now in
    let p = err_from_is_err_and c.from_residual-in_err-told.result c.from_residual-in_err-told.ensures.1 in
    passed_on (Answers s u (asked_of c.args.asked e)) c.from_residual-in_err-told.result p.0 (Refused Memory) p.1 p.2
    (answers-memory s t u c.args.asked e c.in_ok-value.value c.in_ok-value.ensures c.tell.ensures.spends)

pub returns : goal.returns
returns g c =
    let s = work_state g.S.CellStore.state c.args.work.now in
    let t = work_state g.S.CellStore.state c.evaluate.new.work in
    let u = work_state g.S.CellStore.state c.tell.new.work in
    answers-told s t u c.args.asked (tree_of c.args.expr.now) c.in_ok-value.value c.in_ok-value.ensures
    c.tell.ensures.spends c.in_ok-told.told c.in_ok-told.ensures.told

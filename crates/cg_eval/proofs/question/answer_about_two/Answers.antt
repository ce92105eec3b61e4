use Rattle.std.proofs.lemmas.Result.{err_from_is_err_and}
use Rattle.cg_canon.specs.Works.{work_state}
use Rattle.cg_canon.specs.declared.fault.ValueFault.TheVariants.{Memory}
use Rattle.cg_query.specs.Trees.{tree_of}
use Rattle.cg_eval.specs.Parts.{asked_of_two}
use Rattle.cg_eval.specs.Shown.{Answers}
use Rattle.cg_eval.specs.declared.fault.NoValue.TheVariants.{Refused}
use Rattle.cg_eval.proofs.Steps.{passed_on}
use Rattle.cg_eval.proofs.Told.{two-answered, two-halted, two-memory}
use Rattle.cg_eval.proofs.question.answer_about_two.Goals as goal

pub returns-in_err-values : goal.returns-in_err-values
returns-in_err-values g c =
    let s = work_state g.S.CellStore.state c.args.work.now in
    let t = work_state g.S.CellStore.state c.evaluate_two.new.work in
    let a = tree_of c.args.first.now in
    let b = tree_of c.args.second.now in
    let p = err_from_is_err_and c.from_residual.result c.from_residual.ensures.1 in
    passed_on (Answers s t (asked_of_two c.args.asked a b)) c.from_residual.result p.0 c.in_err-values.field-0.0 p.1 p.2
    (two-halted s t c.args.asked a b c.in_err-values.field-0.0 c.in_err-values.ensures)

pub returns-in_err-told : goal.returns-in_err-told
returns-in_err-told g c =
    let s = work_state g.S.CellStore.state c.args.work.now in
    let t = work_state g.S.CellStore.state c.evaluate_two.new.work in
    let u = work_state g.S.CellStore.state c.tell_two.new.work in
    let a = tree_of c.args.first.now in
    let b = tree_of c.args.second.now in
    let p = err_from_is_err_and c.from_residual-in_err-told.result c.from_residual-in_err-told.ensures.1 in
    passed_on (Answers s u (asked_of_two c.args.asked a b)) c.from_residual-in_err-told.result p.0 (Refused Memory) p.1 p.2
    (two-memory s t u c.args.asked a b c.in_ok-values.values c.in_ok-values.ensures c.tell_two.ensures.spends)

pub returns : goal.returns
returns g c =
    let s = work_state g.S.CellStore.state c.args.work.now in
    let t = work_state g.S.CellStore.state c.evaluate_two.new.work in
    let u = work_state g.S.CellStore.state c.tell_two.new.work in
    two-answered s t u c.args.asked (tree_of c.args.first.now) (tree_of c.args.second.now) c.in_ok-values.values
    c.in_ok-values.ensures c.tell_two.ensures.spends c.in_ok-told.told c.in_ok-told.ensures.told

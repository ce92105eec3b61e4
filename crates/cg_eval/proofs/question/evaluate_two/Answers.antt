use Rattle.std.proofs.lemmas.Result.{err_from_is_err_and}
use Rattle.cg_canon.specs.Works.{work_state}
use Rattle.cg_query.specs.Trees.{tree_of}
use Rattle.cg_eval.specs.Progress.{EvaluatesTwo}
use Rattle.cg_eval.proofs.Replies.{both_made, first_stopped, second_stopped}
use Rattle.cg_eval.proofs.Steps.{passed_on}
use Rattle.cg_eval.proofs.question.evaluate_two.Goals as goal

pub returns-in_err-left : goal.returns-in_err-left
returns-in_err-left g c =
    let s = work_state g.S.CellStore.state c.args.work.now in
    let t = work_state g.S.CellStore.state c.evaluate.new.work in
    let a = tree_of c.args.first.now in
    let b = tree_of c.args.second.now in
    let p = err_from_is_err_and c.from_residual.result c.from_residual.ensures.1 in
    passed_on (EvaluatesTwo s t a b) c.from_residual.result p.0 c.in_err-left.field-0.0 p.1 p.2
    (first_stopped s t a b c.in_err-left.field-0.0 c.in_err-left.ensures)

pub returns-in_err-right : goal.returns-in_err-right
returns-in_err-right g c =
    let s = work_state g.S.CellStore.state c.args.work.now in
    let t = work_state g.S.CellStore.state c.evaluate.new.work in
    let u = work_state g.S.CellStore.state c.evaluate-2.new.work in
    let a = tree_of c.args.first.now in
    let b = tree_of c.args.second.now in
    let p = err_from_is_err_and c.from_residual-in_err-right.result c.from_residual-in_err-right.ensures.1 in
    passed_on (EvaluatesTwo s u a b) c.from_residual-in_err-right.result p.0 c.in_err-right.field-0.0 p.1 p.2
    (second_stopped s t u a b c.in_ok-left.left c.in_err-right.field-0.0 c.in_ok-left.ensures c.in_err-right.ensures)

pub returns : goal.returns
returns g c =
    let s = work_state g.S.CellStore.state c.args.work.now in
    let t = work_state g.S.CellStore.state c.evaluate.new.work in
    let u = work_state g.S.CellStore.state c.evaluate-2.new.work in
    both_made s t u (tree_of c.args.first.now) (tree_of c.args.second.now) c.in_ok-left.left c.in_ok-right.right
    c.in_ok-left.ensures c.in_ok-right.ensures

use Rattle.std.proofs.Common.{ap, ◌∙◌, Err}
use Rattle.std.proofs.lemmas.Result.{err_from_is_err_and}
use Rattle.cg_canon.specs.Works.{work_state}
use Rattle.cg_sum.proofs.NimberRows.{rows_end, rows_known, rows_more, rows_start, rows_stop}
use Rattle.cg_sum.proofs.nimber_sums.add_nimbers.Goals as goal

pub loop-row-init : goal.loop-row-init
loop-row-init g c = rows_start (work_state g.S.CellStore.state c.args.work.now) _ _ _ c.requires.holds

pub returns-in_err-add_nimber-clause-made : goal.returns-in_err-add_nimber-clause-made
returns-in_err-add_nimber-clause-made g c =
    let p = err_from_is_err_and c.from_residual.result c.from_residual.ensures.1 in
    rows_stop _ _ _ _ _ _ c.loop-row.invariant c.loop-row-test.true _ _ c.add_nimber.ensures.made _ _
    c.in_err-add_nimber.was (p.1 ∙ ap Err p.2)

pub loop-row-preserved : goal.loop-row-preserved
loop-row-preserved g c =
    rows_more _ _ _ _ _ _ c.loop-row.invariant c.loop-row-test.true _ _ c.add_nimber.ensures.made _ _
    c.in_ok-add_nimber.was c.in_ok-add_nimber.ensures.holds c.in_ok-add_nimber.ensures.known c.add_nimber.ensures.spare

pub returns : goal.returns
returns g c =
    let so = c.loop-row.invariant in
    record {
      holds = so.holds;
      known = rows_known _ _ _ _ _ _ so c.loop-row-test.false;
      made = rows_end _ _ _ _ _ _ tt so c.loop-row-test.false;
      spare = so.spare;
    }

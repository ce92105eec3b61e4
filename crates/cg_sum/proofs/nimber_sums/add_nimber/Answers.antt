use Rattle.std.proofs.Common.{ap, ◌∙◌, Err}
use Rattle.std.proofs.lemmas.Result.{err_from_is_err_and}
use Rattle.cg_canon.specs.Works.{work_state}
use Rattle.cg_sum.proofs.NimberRows.{row_end, row_known, row_near, row_next, row_start, row_stop}
use Rattle.cg_sum.proofs.nimber_sums.add_nimber.Goals as goal

pub loop-column-init : goal.loop-column-init
loop-column-init g c =
    row_start (work_state g.S.CellStore.state c.args.work.now) _ _ _ c.requires.holds c.requires.known

pub nimber_item-requires-clause-near : goal.nimber_item-requires-clause-near
nimber_item-requires-clause-near g c = row_near _ _ _ _ _ _ c.loop-column.invariant c.loop-column-test.true

pub returns-in_err-nimber_item-clause-made : goal.returns-in_err-nimber_item-clause-made
returns-in_err-nimber_item-clause-made g c =
    let p = err_from_is_err_and c.from_residual.result c.from_residual.ensures.1 in
    row_stop _ _ _ _ _ _ c.loop-column.invariant c.loop-column-test.true _ _ c.nimber_item.ensures.made _ _
    c.in_err-nimber_item.was (p.1 ∙ ap Err p.2)

pub loop-column-preserved : goal.loop-column-preserved
loop-column-preserved g c =
    row_next _ _ _ _ _ _ c.loop-column.invariant c.loop-column-test.true _ _ c.nimber_item.ensures.made _ _
    c.in_ok-nimber_item.was c.in_ok-nimber_item.ensures.holds c.in_ok-nimber_item.ensures.known
    c.in_ok-nimber_item.ensures.more c.nimber_item.ensures.spare

pub returns : goal.returns
returns g c =
    let so = c.loop-column.invariant in
    record {
      holds = so.holds;
      known = row_known _ _ _ _ _ _ so c.loop-column-test.false;
      made = row_end _ _ _ _ _ _ tt so c.loop-column-test.false;
      spare = so.spare;
    }

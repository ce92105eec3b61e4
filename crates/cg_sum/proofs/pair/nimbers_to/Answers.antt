use Rattle.cg_canon.specs.Works.{work_state}
use Rattle.cg_sum.proofs.NimberSteps.{up_to}
use Rattle.cg_sum.proofs.pair.nimbers_to.Goals as goal

pub returns : goal.returns
returns g c =
    let W = work_state g.S.CellStore.state in
    let all = up_to (W c.args.work.now) (W c.lesser_nimbers.new.work) c.args.handle c.args.n c.lesser_nimbers.ensures.spends.known _ _ c.requires
    c.in_ok-handles.ensures.lesser c.in_ok-push.ensures.items in
    record { first = all.0; count = all.1; spends = c.lesser_nimbers.ensures.spends }

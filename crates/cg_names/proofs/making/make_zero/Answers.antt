use Rattle.cg_canon.specs.Works.{work_state}
use Rattle.cg_names.proofs.making.make_zero.Goals as goal

pub returns : goal.returns
returns g c =
    let W = work_state g.S.CellStore.state in
    rw (← c.zero.ensures) c.make_number.ensures

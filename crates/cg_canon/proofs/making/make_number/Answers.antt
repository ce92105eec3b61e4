use Rattle.std.proofs.Common.{arith}
use Rattle.cg_form.specs.Game.{number}
use Rattle.cg_canon.proofs.Paying.{made_paid}
use Rattle.cg_canon.proofs.making.make_number.Goals as goal

pub returns : goal.returns
returns g c =
    let s = g.S.CellStore.state c.args.store.now in
    let t = g.S.CellStore.state c.number-2.new.store in
    let cost = c.number.result.cost in
    made_paid s t c.args.meter.now c.charge_item.new.self (number c.args.x) c.args.extra c.number-2.result cost cost (omega arith)
    (rw c.number.ensures.cost c.number-2.ensures.spends)
    c.in_ok-charge_item.ensures.ok c.in_ok-charge_item.ensures.fits c.number-2.ensures.game
    (c.in_ok-charge_item.ensures.charged (number c.args.x) c.number.ensures)

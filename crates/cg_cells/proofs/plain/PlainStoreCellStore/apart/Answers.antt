use Rattle.cg_cells.proofs.Plains.{plain_apart}
use Rattle.cg_cells.proofs.Calls.{seen}
use Rattle.cg_cells.proofs.plain.PlainStoreCellStore.apart.Goals as goal

pub returns : goal.returns
returns g c =
    let P = seen g.F.Facts.meaning g.met.F.Facts.lawful _ _ c.self.view_is c.self.invariant.store in
    plain_apart g.F.Facts.meaning g.met.F.Facts.lawful c.args.self.now P

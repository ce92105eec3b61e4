use Rattle.cg_nodes.proofs.Levels.{real-canonical, real-in_range}
use Rattle.cg_nodes.proofs.reading.known_game.Goals as goal

pub returns-clause-canonical : goal.returns-clause-canonical
returns-clause-canonical g c =
    let raw = g.B.BoardForms.form in
    let s = g.S.CellStore.state c.args.store.now in
    real-canonical raw s c.args.handle (rw c.id.ensures at c.same-same.ensures.real.0) c.requires

pub returns-clause-in_range : goal.returns-clause-in_range
returns-clause-in_range g c =
    let raw = g.B.BoardForms.form in
    let s = g.S.CellStore.state c.args.store.now in
    real-in_range raw s c.args.handle (rw c.id.ensures at c.same-same.ensures.real.0) c.requires

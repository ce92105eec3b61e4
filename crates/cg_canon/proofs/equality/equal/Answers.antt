use Rattle.cg_canon.proofs.Same.{one_handle}
use Rattle.cg_canon.proofs.equality.equal.Goals as goal

pub returns-clause-games : goal.returns-clause-games
returns-clause-games g c =
    one_handle g.B.BoardForms.form (g.S.CellStore.state c.args.store.now) c.args.a c.args.b c.id.result c.id-2.result c.same.result
    c.id.ensures c.id-2.ensures c.requires.a c.requires.b c.same.ensures.things c.same.ensures.real.0 c.same.ensures.real.1

use Rattle.std.proofs.Common.{List, ap, subst, sym}
use Rattle.cg_form.specs.Canonical.{Canonical}
use Rattle.cg_form.specs.Game.{Game, node, number}
use Rattle.cg_nimbers.specs.Nimbers.{zero_form}
use Rattle.cg_thread_rows.proofs.Singles.{single_listed, star-canonical}
use Rattle.cg_thread_rows.proofs.stars.make_star.Goals as goal

pub game-star-requires-clause-canonical : goal.game-star-requires-clause-canonical
game-star-requires-clause-canonical g c =
    let e = single_listed (g.S.CellStore.state c.number-zero.new.store) (g.S.CellStore.state c.list-zeros.new.store)
    c.list-zeros.result c.number-zero.result (number c.zero.result) zero_form
    c.list-zeros.ensures.list c.number-zero.ensures.game (ap number c.zero.ensures) in
    let P : List Game → Type 0 = λ z. Canonical (node z z) in
    subst P (sym e) star-canonical

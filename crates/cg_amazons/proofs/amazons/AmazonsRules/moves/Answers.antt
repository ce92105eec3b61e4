use Rattle.std.proofs.Common.{refl, ap, map, arith}
use Rattle.cg_moves.specs.Grid.{with_cells}
use Rattle.cg_moves.proofs.Carried.{ok_along}
use Rattle.cg_moves.proofs.GridFacts.{some-columns}
use Rattle.cg_amazons.proofs.Taken.{all_like, listed}
use Rattle.cg_amazons.proofs.amazons.AmazonsRules.moves.Goals as goal

pub risen-requires : goal.risen-requires
risen-requires c =
    all_like c.args.player c.args.board.now c.in_ok-boards.boards.items c.in_ok-boards.boards.items refl c.in_ok-boards.ensures

pub returns : goal.returns
returns c =
    let p = c.args.board.now in
    let g = c.size-size.ensures.grid in
    let e = g.size in
    let some = g.some in
    let columns = some-columns p.rows p.columns (omega arith) in
    ok_along c.risen.result _ _
    (ap (map (with_cells p)) (listed c.args.player p c.in_ok-boards.boards.items columns c.in_ok-boards.ensures))
    c.risen.ensures

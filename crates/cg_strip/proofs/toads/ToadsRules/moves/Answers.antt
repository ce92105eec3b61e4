use Rattle.std.proofs.Common.{refl, ap, map, ◌∙◌}
use Rattle.cg_moves.specs.Grid.{with_cells}
use Rattle.cg_moves.proofs.Carried.{ok_along}
use Rattle.cg_moves.proofs.Sorting.{all_like, in_their_order}
use Rattle.cg_strip.specs.Hops.{hops_made}
use Rattle.cg_strip.proofs.HopLemmas.{hops_rise}
use Rattle.cg_strip.proofs.toads.ToadsRules.moves.Goals as goal

pub risen-requires : goal.risen-requires
risen-requires c =
    all_like c.args.board.now _ c.hops.new.boards.items c.hops.new.boards.items refl c.in_ok-hops.ensures

pub returns : goal.returns
returns c =
    let p = c.args.board.now in
    let made = hops_made c.args.player p.cells in
    ok_along c.risen.result _ _
    (in_their_order p made c.hops.new.boards.items c.hops.new.boards.items refl c.in_ok-hops.ensures
    ∙ ap (map (with_cells p)) (hops_rise c.args.player p.cells))
    c.risen.ensures

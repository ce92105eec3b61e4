use Rattle.std.proofs.Common.{refl, ap, map, ◌∙◌}
use Rattle.cg_moves.specs.Grid.{with_cells}
use Rattle.cg_moves.proofs.Sorting.{all_like, in_their_order}
use Rattle.cg_strip.specs.Hops.{hops_made}
use Rattle.cg_strip.proofs.HopLemmas.{hops_rise}
use Rattle.cg_strip.proofs.toads.ToadsRules.moves_into.Goals as goal

pub risen-requires : goal.risen-requires
risen-requires c =
    let boards = c.replace-boards.result.items in
    all_like c.args.board.now _ boards boards refl (ap (λ z. z.items) c.replace-boards.ensures.value ∙ c.in_ok-hops.ensures)

pub returns : goal.returns
returns c =
    let p = c.args.board.now in
    let made = hops_made c.args.player p.cells in
    let boards = c.replace-boards.result.items in
    c.into_vec.ensures ∙ c.in_ok-risen.ensures
    ∙ in_their_order p made boards boards refl (ap (λ z. z.items) c.replace-boards.ensures.value ∙ c.in_ok-hops.ensures)
    ∙ ap (map (with_cells p)) (hops_rise c.args.player p.cells)

use Rattle.std.proofs.Common.{length, map, ap, ◌∙◌}
use Rattle.std.specs.List.{flat_map}
use Rattle.cg_moves.specs.Grid.{with_cells}
use Rattle.cg_moves.specs.Rising.{counted}
use Rattle.cg_moves.proofs.Carried.{ok_along}
use Rattle.cg_moves.proofs.Sorting.{all_like, in_their_order}
use Rattle.cg_graph.specs.Drawings.{graph_of}
use Rattle.cg_graph.specs.Hackenbush.{cuts_at}
use Rattle.cg_graph.proofs.drawing_moves.HackenbushRules.moves.Goals as goal

pub in_order-requires : goal.in_order-requires
in_order-requires c =
    all_like c.args.board.now _ c.in_ok-boards.boards.items c.deref.result.now c.deref.ensures.value c.in_ok-boards.ensures

pub returns : goal.returns
returns c =
    let p = c.args.board.now in
    let made = c.in_ok-boards.ensures ∙ ap (λ z. map (with_cells p) (flat_map (cuts_at (graph_of z) c.args.player p.cells)
    (counted 0 (length p.cells)))) c.edges.ensures.value in
    ok_along c.in_order.result _ _
    (in_their_order p (flat_map (cuts_at (graph_of c.args.self.now) c.args.player p.cells) (counted 0 (length p.cells)))
    c.in_ok-boards.boards.items c.deref.result.now c.deref.ensures.value made)
    c.in_order.ensures

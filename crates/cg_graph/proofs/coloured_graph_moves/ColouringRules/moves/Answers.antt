use Rattle.std.proofs.Common.{length}
use Rattle.std.specs.List.{flat_map}
use Rattle.cg_moves.specs.Rising.{counted}
use Rattle.cg_moves.proofs.Carried.{ok_along}
use Rattle.cg_moves.proofs.Sorting.{all_like, in_their_order}
use Rattle.cg_graph.specs.ColouredGraphs.{edges_of}
use Rattle.cg_graph.specs.Colouring.{colourings_at}
use Rattle.cg_graph.proofs.coloured_graph_moves.ColouringRules.moves.Goals as goal

pub in_order-requires : goal.in_order-requires
in_order-requires c =
    all_like c.args.board.now _ c.in_ok-boards.boards.items c.deref.result.now c.deref.ensures.value c.in_ok-boards.ensures

pub returns : goal.returns
returns c =
    let p = c.args.board.now in
    let coloured_graph = c.args.self.now in
    let all = flat_map (colourings_at coloured_graph.snort (edges_of coloured_graph.edges) c.args.player p.cells) (counted 0 (length p.cells)) in
    ok_along c.in_order.result _ _
    (in_their_order p all c.in_ok-boards.boards.items c.deref.result.now c.deref.ensures.value c.in_ok-boards.ensures)
    c.in_order.ensures

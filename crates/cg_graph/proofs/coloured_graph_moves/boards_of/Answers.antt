use Rattle.std.proofs.Common.{map, ap, ◌∙◌, arith}
use Rattle.std.specs.List.{flat_map}
use Rattle.cg_moves.specs.Grid.{with_cells}
use Rattle.cg_moves.specs.Rising.{counted}
use Rattle.cg_moves.proofs.MoveLemmas.{listed_next}
use Rattle.cg_graph.specs.ColouredGraphs.{edges_of}
use Rattle.cg_graph.specs.Colouring.{colourings_at}
use Rattle.cg_graph.proofs.coloured_graph_moves.boards_of.Goals as goal

pub loop-vertex-preserved : goal.loop-vertex-preserved
loop-vertex-preserved c =
    listed_next (with_cells c.args.board.now)
    (colourings_at c.args.coloured_graph.now.snort (edges_of c.args.coloured_graph.now.edges) c.args.player c.args.board.now.cells)
    c.loop-vertex.vertex c.loop-vertex.boards.items c.put_colour.new.boards.items c.loop-vertex.invariant
    c.in_ok-put_colour.ensures

pub returns : goal.returns
returns c =
    let e = c.size-vertex-end.ensures.value in
    let a = c.loop-vertex.auto.vertex-end in
    let t = c.loop-vertex-test.false in
    c.loop-vertex.invariant
    ∙ ap (λ k. map (with_cells c.args.board.now) (flat_map
    (colourings_at c.args.coloured_graph.now.snort (edges_of c.args.coloured_graph.now.edges) c.args.player c.args.board.now.cells)
    (counted 0 k))) (omega (arith, e, a, t))

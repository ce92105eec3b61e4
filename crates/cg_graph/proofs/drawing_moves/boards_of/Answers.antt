use Rattle.std.proofs.Common.{map, ap, ◌∙◌, arith}
use Rattle.std.specs.List.{flat_map}
use Rattle.cg_moves.specs.Grid.{with_cells}
use Rattle.cg_moves.specs.Rising.{counted}
use Rattle.cg_moves.proofs.MoveLemmas.{listed_next}
use Rattle.cg_graph.specs.Drawings.{graph_of}
use Rattle.cg_graph.specs.Hackenbush.{cuts_at}
use Rattle.cg_graph.proofs.drawing_moves.boards_of.Goals as goal

pub loop-index-preserved : goal.loop-index-preserved
loop-index-preserved c =
    listed_next (with_cells c.args.board.now) (cuts_at (graph_of c.args.edges.now) c.args.player c.args.board.now.cells)
    c.loop-index.index c.loop-index.boards.items c.put_cut.new.boards.items c.loop-index.invariant c.in_ok-put_cut.ensures

pub returns : goal.returns
returns c =
    let e = c.size-index-end.ensures.value in
    let a = c.loop-index.auto.index-end in
    let t = c.loop-index-test.false in
    c.loop-index.invariant
    ∙ ap (λ k. map (with_cells c.args.board.now)
    (flat_map (cuts_at (graph_of c.args.edges.now) c.args.player c.args.board.now.cells) (counted 0 k))) (omega (arith, e, a, t))

use Rattle.std.proofs.Common.{◌≡◌, sym, ◌∙◌}
use Rattle.cg_graph.proofs.ColouredSound.{coloured_graph_sound}
use Rattle.cg_graph.proofs.coloured_graph.coloured_graph_of.Goals as goal

pub invariant_of-result : goal.invariant_of-result
invariant_of-result c =
    let cells : c.in_ok-vertices.vertices.items ≡ c.args.vertices.now =
    c.in_ok-vertices.ensures.items_if_clones_equal (λ x y e. e) in
    coloured_graph_sound c.args.snort c.args.vertices.now c.in_ok-vertices.vertices.items c.args.items.now c.in_ok-edges.edges.items
    c.requires.vertices c.requires.items (sym c.pairs_fault.ensures ∙ c.in_default.is) cells c.in_ok-edges.ensures

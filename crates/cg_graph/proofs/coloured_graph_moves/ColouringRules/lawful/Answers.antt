use Rattle.std.proofs.Common.{length}
use Rattle.cg_graph.specs.ColouredGraphs.{edges_of}
use Rattle.cg_graph.proofs.ColouringLaw.{colouring_lawful}
use Rattle.cg_graph.proofs.coloured_graph_moves.ColouringRules.lawful.Goals as goal

pub returns : goal.returns
returns c =
    let graph = c.args.self.now in
    colouring_lawful graph.snort (length graph.vertices) (edges_of graph.edges)

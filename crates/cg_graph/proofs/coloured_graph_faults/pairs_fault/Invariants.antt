use Rattle.std.proofs.Common.{◌≡◌, drop}
use Rattle.cg_graph.specs.ColouredGraphs.{pairs_fault}
use Rattle.cg_graph.proofs.coloured_graph_faults.pairs_fault.Given as goal

abbrev pub invariant-loop-item : goal.invariant-loop-item
invariant-loop-item l = pairs_fault l.vertices (drop l.item-index l.items) ≡ pairs_fault l.vertices l.items

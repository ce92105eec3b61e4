use Rattle.std.proofs.Common.{◌≡◌, take}
use Rattle.cg_graph.specs.ColouredGraphs.{pairs_of}
use Rattle.cg_graph.proofs.coloured_graph.pairs_of.Given as goal

abbrev pub invariant-loop-item : goal.invariant-loop-item
invariant-loop-item l = l.pairs.items ≡ pairs_of (take l.item-index l.items)

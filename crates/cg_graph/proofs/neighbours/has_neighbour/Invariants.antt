use Rattle.std.proofs.Common.{◌≡◌, false}
use Rattle.std.specs.List.{list_any}
use Rattle.cg_moves.specs.Rising.{counted}
use Rattle.cg_graph.proofs.Adjacent.{is_neighbour}
use Rattle.cg_graph.proofs.neighbours.has_neighbour.Given as goal

abbrev pub invariant-loop-other : goal.invariant-loop-other
invariant-loop-other l = list_any (is_neighbour l.pairs l.board.cells l.vertex l.colour) (counted 0 l.other) ≡ false

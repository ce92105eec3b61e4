use Rattle.std.proofs.Common.{sym, ◌∙◌, arith}
use Rattle.cg_graph.proofs.Adjacent.{neighbour_found, not_between, other_colour}
use Rattle.cg_graph.proofs.neighbours.has_neighbour.Goals as goal
use Rattle.cg_graph.proofs.neighbours.has_neighbour.Goals.{else-cell-colour-via-then-cell-colour+else-are_adjacent, else-cell-colour-via-else-cell-colour}

pub returns-then-are_adjacent : goal.returns-then-are_adjacent
returns-then-are_adjacent c =
    let t = c.loop-other-test.true in
    let e = c.size-other-end.ensures.value in
    sym (neighbour_found c.args.pairs.now c.args.board.now.cells c.args.vertex c.args.colour c.loop-other.other
    (omega (arith, t, e)) (sym c.cell.ensures ∙ c.if-cell-colour.true) (sym c.are_adjacent.ensures ∙ c.if-are_adjacent.true))

pub loop-other-preserved : goal.loop-other-preserved
loop-other-preserved c = elim c.else-cell-colour.branch [
  | else-cell-colour-via-then-cell-colour+else-are_adjacent w ↦
      not_between c.args.pairs.now c.args.board.now.cells c.args.vertex c.args.colour c.loop-other.other c.loop-other.invariant
      (sym w.are_adjacent.ensures ∙ w.if-are_adjacent.false)
  | else-cell-colour-via-else-cell-colour w ↦
      other_colour c.args.pairs.now c.args.board.now.cells c.args.vertex c.args.colour c.loop-other.other c.loop-other.invariant
      (λ e. w.if-cell-colour.false (c.cell.ensures ∙ e))
]

use Rattle.std.proofs.Common.{sym, ◌∙◌, arith}
use Rattle.cg_graph.proofs.LabelSteps.{label_gone, label_joined}
use Rattle.cg_graph.proofs.labels.labels.Goals as goal

pub loop-left-preserved-then-cell-ne-GONE : goal.loop-left-preserved-then-cell-ne-GONE
loop-left-preserved-then-cell-ne-GONE c = record {
  within = let h = c.loop-left.invariant.within in omega arith;
  are = label_joined c.loop-left.labels c.relabel.new.labels c.args.board.now.cells c.args.edges.now c.loop-left.left _
      (omega arith) c.loop-left.invariant.within c.requires.size c.requires.edges
      (λ e. c.if-cell-ne-GONE.true (c.cell.ensures ∙ e)) c.loop-left.invariant.are c.relabel.ensures.long
      c.relabel.ensures.value;
}

pub loop-left-preserved : goal.loop-left-preserved
loop-left-preserved c = record {
  within = let h = c.loop-left.invariant.within in omega arith;
  are = label_gone c.loop-left.labels c.args.board.now.cells c.args.edges.now c.loop-left.left (omega arith)
      c.loop-left.invariant.within c.requires.size (sym c.cell.ensures ∙ c.if-cell-ne-GONE.false) c.loop-left.invariant.are;
}

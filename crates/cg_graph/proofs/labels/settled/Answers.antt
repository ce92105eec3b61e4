use Rattle.std.proofs.Common.{◌≡◌, ℕ, List, ap, sym, ◌∙◌, arith}
use Rattle.std.specs.Prelude.{slice_set}
use Rattle.cg_moves.specs.Grid.{Grid, with_cells}
use Rattle.cg_graph.specs.Drawings.{graph_of}
use Rattle.cg_graph.specs.Paths.{gone, is_joined}
use Rattle.cg_graph.proofs.LabelSteps.{joined_at, kept_all, kept_goes, kept_stays}
use Rattle.cg_graph.proofs.labels.settled.Goals as goal
use Rattle.cg_graph.proofs.labels.settled.Goals.{then-not-is_joined, else-not-is_joined}

pub set-requires-clause-symbol : goal.set-requires-clause-symbol
set-requires-clause-symbol c =
    rw (ap (λ (q : Grid). q.symbols) c.loop-i.invariant.like) c.requires.gone

pub loop-i-preserved : goal.loop-i-preserved
loop-i-preserved c =
    let start = c.args.board.cells in
    let test = is_joined (graph_of c.args.edges.now) start in
    let i = c.loop-i.i in
    let joined = c.is_joined.ensures ∙ joined_at c.labels-labels.result start c.args.edges.now i _
    c.labels-labels.ensures c.requires.edges c.loop-i-test.true in
    let cells : Grid → List ℕ = λ q. q.cells in
    elim c.if-not-is_joined.branch [
      | then-not-is_joined w ↦ (let same : c.if-not-is_joined.kept ≡ with_cells c.loop-i.kept (slice_set c.loop-i.kept.cells i gone) =
          w.kept-is ∙ w.set.ensures in
          record {
            like = same ∙ ap (λ (q : Grid). with_cells q (slice_set c.loop-i.kept.cells i gone)) c.loop-i.invariant.like
                ∙ ap (with_cells c.args.board) (sym (ap cells same));
            kept = kept_goes test start c.loop-i.kept.cells c.if-not-is_joined.kept.cells i c.loop-i.invariant.kept
                (omega (arith, c.requires.size, c.loop-i-test.true)) (sym joined ∙ w.if-not-is_joined.true) (ap cells same);
          })
      | else-not-is_joined w ↦ (let same : c.if-not-is_joined.kept ≡ c.loop-i.kept = w.kept-is in
          record {
            like = same ∙ c.loop-i.invariant.like ∙ ap (with_cells c.args.board) (sym (ap cells same));
            kept = kept_stays test start c.loop-i.kept.cells c.if-not-is_joined.kept.cells i c.loop-i.invariant.kept
                (sym joined ∙ w.if-not-is_joined.false) (ap cells same);
          })
    ]

pub returns : goal.returns
returns c =
    c.loop-i.invariant.like
    ∙ ap (with_cells c.args.board)
    (kept_all (is_joined (graph_of c.args.edges.now) c.args.board.cells) c.args.board.cells c.loop-i.kept.cells c.loop-i.i
    c.loop-i.invariant.kept (let t = c.loop-i-test.false in let s = c.requires.size in omega arith))

use Rattle.std.proofs.Common.{List, [], ◌∷◌, ◌++◌, ap, sym, ◌∙◌, arith}
use Rattle.cg_reading.specs.Readers.{Read, ◌>>=◌, behind_these}
use Rattle.cg_reading.proofs.Gathered.{gathered_next}
use Rattle.cg_graph.specs.Grammar.{comma}
use Rattle.cg_graph.specs.Reading.{next_edge_at}
use Rattle.cg_graph.specs.declared.items.EdgeItem.{EdgeItem}
use Rattle.cg_graph.proofs.Productions.{next_edge_ok}
use Rattle.cg_graph.proofs.reading.more_edges.Goals as goal

pub loop-first-preserved : goal.loop-first-preserved
loop-first-preserved c =
    let front = c.loop-first.edges.items in
    let end = c.args.text_end in
    let after = c.in_ok-next.after.now in
    let e = gathered_next _ next_edge_at comma next_edge_ok.reads front end c.in-Some.first.now c.loop-first.rest.now
    c.in-Some.field-0-1.now c.in-Some.ensures.cases.0 (sym c.is_byte.ensures ∙ c.if-not-is_byte.false)
    (omega (arith, c.loop-first.invariant.shorter, c.requires)) in
    let next = ap (λ (z : Read EdgeItem). z >>= λ y. behind_these comma next_edge_at (front ++ y.0 ∷ []) end y.1)
    c.in_ok-next.ensures.read in
    record {
      shorter = omega (arith, c.in_ok-next.ensures.shorter, c.loop-first.invariant.shorter);
      same = ap (λ (ts : List EdgeItem). behind_these comma next_edge_at ts end after) c.in_ok-push.ensures.items
          ∙ sym (e ∙ next) ∙ c.loop-first.invariant.same;
    }

use Rattle.std.proofs.Common.{◌≡◌, ◌∙◌, Ok, Err, None, inl, inr, ap, sym, refl, arith}
use Rattle.cg_reading.specs.Readers.{whole_at}
use Rattle.cg_graph.specs.ColouredGraphs.{vertices_fault}
use Rattle.cg_graph.specs.Reading.{pairs_at}
use Rattle.cg_graph.proofs.ColouredReadings.{cause_uncoloured, err_uncoloured, ok_coloured, pairs_left, pairs_take}
use Rattle.cg_graph.proofs.ColouredReadings.{said_err, said_ok, stuck_cause, uncoloured_is, vertices_cause}
use Rattle.cg_graph.proofs.Places.{pairs_are}
use Rattle.cg_graph.proofs.coloured_graph.Colouring.read.Goals as goal

pub returns-in-Some-clause-cause : goal.returns-in-Some-clause-cause
returns-in-Some-clause-cause c =
    inr (vertices_cause c.args.snort c.args.vertices.now c.args.edges.now _ (sym c.in-Some.is ∙ c.vertices_fault.ensures))

pub returns-in-Some-clause-refused : goal.returns-in-Some-clause-refused
returns-in-Some-clause-refused c =
    uncoloured_is c.args.snort c.args.vertices.now c.args.edges.now _
    (vertices_cause c.args.snort c.args.vertices.now c.args.edges.now _ (sym c.in-Some.is ∙ c.vertices_fault.ensures))

pub coloured_graph_of-requires-clause-items : goal.coloured_graph_of-requires-clause-items
coloured_graph_of-requires-clause-items c =
    rw c.deref.ensures.value
    ((pairs_are 1 c.in-Ok.items.items c.args.edges.now (pairs_take c.args.edges.now c.in-Ok.items.items c.in-Ok.ensures)).letters
    (omega arith))

pub returns-in-Ok-clause-same : goal.returns-in-Ok-clause-same
returns-in-Ok-clause-same c =
    let whole : whole_at pairs_at c.args.edges.now ≡ Ok c.in-Ok.items.items = c.in-Ok.ensures in
    let sound : vertices_fault c.args.vertices.now ≡ None = sym c.vertices_fault.ensures ∙ c.in_default.is in
    said_ok c.args.snort c.args.vertices.now c.args.edges.now c.deref.result.now c.coloured_graph_of.result sound
    (whole ∙ ap (λ z. Ok z) (sym c.deref.ensures.value)) c.coloured_graph_of.ensures.same

pub returns-in-Ok-clause-cause : goal.returns-in-Ok-clause-cause
returns-in-Ok-clause-cause c =
    let whole : whole_at pairs_at c.args.edges.now ≡ Ok c.in-Ok.items.items = c.in-Ok.ensures in
    let sound : vertices_fault c.args.vertices.now ≡ None = sym c.vertices_fault.ensures ∙ c.in_default.is in
    said_err c.args.snort c.args.vertices.now c.args.edges.now c.deref.result.now c.coloured_graph_of.result sound
    (whole ∙ ap (λ z. Ok z) (sym c.deref.ensures.value)) c.coloured_graph_of.ensures.cause

pub returns-in-Ok-clause-read : goal.returns-in-Ok-clause-read
returns-in-Ok-clause-read c =
    ok_coloured c.args.snort c.args.vertices.now c.args.edges.now c.coloured_graph_of.result (returns-in-Ok-clause-same c)

pub returns-in-Ok-clause-refused : goal.returns-in-Ok-clause-refused
returns-in-Ok-clause-refused c =
    err_uncoloured c.args.snort c.args.vertices.now c.args.edges.now c.coloured_graph_of.result (returns-in-Ok-clause-cause c)

pub returns-in-Err-Memory-clause-refused : goal.returns-in-Err-Memory-clause-refused
returns-in-Err-Memory-clause-refused c = cause_uncoloured c.args.snort c.args.vertices.now c.args.edges.now _ (inl refl)

pub overflow_sub-result : goal.overflow_sub-result
overflow_sub-result c =
    let stuck : whole_at pairs_at c.args.edges.now ≡ Err c.in-Err-Stuck.left =
    rw c.in-Err-Stuck.field-0-is at c.in-Err-Stuck.ensures in
    omega (arith, pairs_left c.args.edges.now c.in-Err-Stuck.left stuck)

pub returns-in-Err-Stuck-clause-cause : goal.returns-in-Err-Stuck-clause-cause
returns-in-Err-Stuck-clause-cause c =
    let stuck : whole_at pairs_at c.args.edges.now ≡ Err c.in-Err-Stuck.left =
    rw c.in-Err-Stuck.field-0-is at c.in-Err-Stuck.ensures in
    inr (stuck_cause c.args.snort c.args.vertices.now c.args.edges.now c.in-Err-Stuck.left _
    (sym c.vertices_fault.ensures ∙ c.in_default.is) stuck
    (omega (arith, pairs_left c.args.edges.now c.in-Err-Stuck.left stuck)))

pub returns-in-Err-Stuck-clause-refused : goal.returns-in-Err-Stuck-clause-refused
returns-in-Err-Stuck-clause-refused c =
    let stuck : whole_at pairs_at c.args.edges.now ≡ Err c.in-Err-Stuck.left =
    rw c.in-Err-Stuck.field-0-is at c.in-Err-Stuck.ensures in
    uncoloured_is c.args.snort c.args.vertices.now c.args.edges.now _
    (stuck_cause c.args.snort c.args.vertices.now c.args.edges.now c.in-Err-Stuck.left _
    (sym c.vertices_fault.ensures ∙ c.in_default.is) stuck
    (omega (arith, pairs_left c.args.edges.now c.in-Err-Stuck.left stuck)))

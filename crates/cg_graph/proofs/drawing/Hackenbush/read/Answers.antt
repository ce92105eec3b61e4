use Rattle.std.proofs.Common.{◌≡◌, Err, inr, arith}
use Rattle.cg_reading.specs.Readers.{whole_at}
use Rattle.cg_graph.specs.Reading.{edges_at}
use Rattle.cg_graph.proofs.DrawingReadings.{edges_left, edges_take, err_refused, ok_drawn, refused_is, said_err, said_ok, stuck_cause}
use Rattle.cg_graph.proofs.Places.{edges_are}
use Rattle.cg_graph.proofs.drawing.Hackenbush.read.Goals as goal

pub drawing_of-requires-clause-some : goal.drawing_of-requires-clause-some
drawing_of-requires-clause-some c =
    (edges_are 1 c.in-Ok.items.items c.args.edges.now (edges_take c.args.edges.now c.in-Ok.items.items c.in-Ok.ensures)).0

pub drawing_of-requires-clause-edges : goal.drawing_of-requires-clause-edges
drawing_of-requires-clause-edges c =
    (edges_are 1 c.in-Ok.items.items c.args.edges.now (edges_take c.args.edges.now c.in-Ok.items.items c.in-Ok.ensures)).1

pub returns-in-Ok-clause-same : goal.returns-in-Ok-clause-same
returns-in-Ok-clause-same c =
    said_ok c.args.edges.now c.in-Ok.items.items c.drawing_of.result c.in-Ok.ensures c.drawing_of.ensures.same

pub returns-in-Ok-clause-cause : goal.returns-in-Ok-clause-cause
returns-in-Ok-clause-cause c =
    said_err c.args.edges.now c.in-Ok.items.items c.drawing_of.result c.in-Ok.ensures c.drawing_of.ensures.cause

pub returns-in-Ok-clause-read : goal.returns-in-Ok-clause-read
returns-in-Ok-clause-read c = ok_drawn c.args.edges.now c.drawing_of.result (returns-in-Ok-clause-same c)

pub returns-in-Ok-clause-refused : goal.returns-in-Ok-clause-refused
returns-in-Ok-clause-refused c = err_refused c.args.edges.now c.drawing_of.result (returns-in-Ok-clause-cause c)

pub overflow_sub-result : goal.overflow_sub-result
overflow_sub-result c =
    let stuck : whole_at edges_at c.args.edges.now ≡ Err c.in-Err-Stuck.left =
    rw c.in-Err-Stuck.field-0-is at c.in-Err-Stuck.ensures in
    omega (arith, edges_left c.args.edges.now c.in-Err-Stuck.left stuck)

pub returns-in-Err-Stuck-clause-cause : goal.returns-in-Err-Stuck-clause-cause
returns-in-Err-Stuck-clause-cause c =
    let stuck : whole_at edges_at c.args.edges.now ≡ Err c.in-Err-Stuck.left =
    rw c.in-Err-Stuck.field-0-is at c.in-Err-Stuck.ensures in
    inr (stuck_cause c.args.edges.now c.in-Err-Stuck.left _ stuck
    (omega (arith, edges_left c.args.edges.now c.in-Err-Stuck.left stuck)))

pub returns-in-Err-Stuck-clause-refused : goal.returns-in-Err-Stuck-clause-refused
returns-in-Err-Stuck-clause-refused c =
    let stuck : whole_at edges_at c.args.edges.now ≡ Err c.in-Err-Stuck.left =
    rw c.in-Err-Stuck.field-0-is at c.in-Err-Stuck.ensures in
    refused_is c.args.edges.now _ (stuck_cause c.args.edges.now c.in-Err-Stuck.left _ stuck
    (omega (arith, edges_left c.args.edges.now c.in-Err-Stuck.left stuck)))

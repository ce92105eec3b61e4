-- A job may be seen by many threads: its lines are shared, and so all that a question has.
use denote.Enum.Declared as enum
use denote.Struct.Declared as struct
use denote.Param.Send.{IsSync, enum_sync, recorded_sync, sendable, struct_sync}
use Rattle.cg_session.specs.contracts.job.LineJob.{the_row}
use Rattle.cg_syntax.specs.contracts.session.SessionLine as line
use Rattle.cg_syntax.specs.contracts.session.Asked as asked
use Rattle.cg_query.specs.contracts.query.Query as query
use Rattle.cg_query.specs.contracts.expr.Expr as expr
use Rattle.cg_query.specs.contracts.text.Text as bytes
use Rattle.cg_query.proofs.expr.Expr.TheLaws.TheKnot.{crosses}
use Rattle.cg_query.proofs.text.Text.TheSendSync as text
use Rattle.std.proofs.vec.Vec.TheSendSync as vec
use Rattle.std.proofs.boxed.Box.TheSendSync as boxed
use Rattle.std.proofs.alloc.Global.TheSendSync as global

expr_sync : IsSync (expr.the_field).row
expr_sync = search (sendable, crosses, vec.the_sync, boxed.the_sync, global.the_sync) depth 12

text_sync : IsSync (bytes.the_field).row
text_sync = search (sendable, text.the_sync) depth 12

query_sync : IsSync (query.the_field).row
query_sync =
    let e = expr_sync in
    enum_sync (enum.shape query.the_type)
    ((e, tt), ((e, (e, tt)), ((e, tt), ((e, tt), ((e, tt), ((e, tt), ((e, tt), ((e, (e, tt)), ((e, (e, (text_sync, tt))), tt)))))))))

asked_sync : IsSync (asked.the_field).row
asked_sync = enum_sync (enum.shape asked.the_type) ((query_sync, tt), ((search sendable, tt), ((search sendable, tt), (tt, tt))))

line_sync : IsSync line.the_row
line_sync = recorded_sync _ _ _ (line.the_type).to_one (struct_sync (struct.shape line.the_type) (search sendable, (asked_sync, tt)))

-- the lines are only read
pub job_sync : (κ : _) → IsSync (the_row κ)
job_sync κ = search (sendable, line_sync) depth 12

use Rattle.std.proofs.Common.{ap}
use Rattle.cg_syntax.specs.Session.{Asked_of, Syntax_at, Too_large, Unknown_at}
use Rattle.cg_syntax.specs.SessionViews.{resolved_of}
use Rattle.cg_query.specs.Trees.{question_of}
use Rattle.cg_syntax.specs.declared.session.Asked.{Asked}
use Rattle.cg_session.proofs.Knowing.{asked_reply, parts_reply, reply_as, syntax_reply, unknown_reply}
use Rattle.cg_session.proofs.job.answer_line.Goals as goal

pub returns-in-Query-clause-reply : goal.returns-in-Query-clause-reply
returns-in-Query-clause-reply g c =
    let q = question_of c.in-Query.query in
    reply_as c.args.share c.args.positions (Asked_of q) (resolved_of c.args.asked.now) c.answer_query_cached.result
    (ap (λ (x : Asked). resolved_of x) c.in-Query.is)
    (asked_reply c.args.share c.args.positions (g.S.CellStore.state c.answer_query_cached.new.store) q c.answer_query_cached.result
    c.answer_query_cached.ensures.reply)

pub returns-in-Syntax-clause-reply : goal.returns-in-Syntax-clause-reply
returns-in-Syntax-clause-reply g c =
    reply_as c.args.share c.args.positions (Syntax_at c.in-Syntax.column) (resolved_of c.args.asked.now) c.refuse_syntax.result
    (ap (λ (x : Asked). resolved_of x) c.in-Syntax.is)
    (syntax_reply c.args.share c.args.positions c.in-Syntax.column c.refuse_syntax.result c.refuse_syntax.ensures.text)

pub returns-in-Unknown-clause-reply : goal.returns-in-Unknown-clause-reply
returns-in-Unknown-clause-reply g c =
    reply_as c.args.share c.args.positions (Unknown_at c.in-Unknown.column) (resolved_of c.args.asked.now) c.refuse_name.result
    (ap (λ (x : Asked). resolved_of x) c.in-Unknown.is)
    (unknown_reply c.args.share c.args.positions c.in-Unknown.column c.refuse_name.result c.refuse_name.ensures.text)

pub returns-in-Parts-clause-reply : goal.returns-in-Parts-clause-reply
returns-in-Parts-clause-reply g c =
    reply_as c.args.share c.args.positions Too_large (resolved_of c.args.asked.now) c.refuse_parts.result
    (ap (λ (x : Asked). resolved_of x) c.in-Parts.is)
    (parts_reply c.args.share c.args.positions c.refuse_parts.result c.refuse_parts.ensures.text)

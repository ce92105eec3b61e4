use Rattle.std.proofs.Common.{◌≡◌, false, true, arith}
use Rattle.cg_grammar.specs.Lines.{is_blank_line, IsComment, IsUnread, Reads}
use Rattle.cg_query.specs.Trees.{question_of}
use Rattle.cg_eval.specs.declared.answered.Answered.{Answered}
use Rattle.cg_eval.specs.Refused.{IsRefusedBy}
use Rattle.cg_eval.specs.Reply.{IsReply, syntax_at}
use Rattle.cg_eval.specs.Shown.{HandleOf, IsAnswered, IsDeepAt, shown}
use Rattle.cg_eval.proofs.Replies.{deep-read, deep-unread, handle-read, handle-unread, if_ok_map, keeps_store-same, reply-read, reply-unread}
use Rattle.cg_eval.proofs.line.answer.Goals as goal

pub unreachable-requires : goal.unreachable-requires
unreachable-requires g c =
    let yes : is_blank_line c.args.line.now ≡ true = rw c.in-Ok-Blank.field-0-is at c.in-Ok-Blank.ensures.read in
    let no : is_blank_line c.args.line.now ≡ false = c.requires.not_blank in
    absurd cc

pub unreachable-requires-in-Ok-Comment : goal.unreachable-requires-in-Ok-Comment
unreachable-requires-in-Ok-Comment g c =
    let is : IsComment c.args.line.now = rw c.in-Ok-Comment.field-0-is at c.in-Ok-Comment.ensures.read in
    c.requires.not_comment is

pub returns-in-Ok-Ask-clause-reply : goal.returns-in-Ok-Ask-clause-reply
returns-in-Ok-Ask-clause-reply g c =
    let q = question_of c.in-Ok-Ask.query in
    let line = c.args.line.now in
    let store = g.S.CellStore.state c.answer_query.new.store in
    let reads : Reads line q = rw c.in-Ok-Ask.field-0-is at c.in-Ok-Ask.ensures.read in
    if_ok_map (λ (a : Answered). IsAnswered c.args.share c.args.positions store q a) (λ
    (a : Answered). IsReply c.args.share c.args.positions line (shown a)) c.answer_query.result
    (λ a h. reply-read c.args.share c.args.positions line q (shown a)
    (c.one_query.ensures.unique line) reads h.reply) c.answer_query.ensures.reply

pub returns-in-Ok-Ask-clause-handle : goal.returns-in-Ok-Ask-clause-handle
returns-in-Ok-Ask-clause-handle g c =
    let q = question_of c.in-Ok-Ask.query in
    let line = c.args.line.now in
    let store = g.S.CellStore.state c.answer_query.new.store in
    let reads : Reads line q = rw c.in-Ok-Ask.field-0-is at c.in-Ok-Ask.ensures.read in
    if_ok_map (λ (a : Answered). IsAnswered c.args.share c.args.positions store q a) (λ
    (a : Answered). HandleOf store line a.refused a.handle) c.answer_query.result
    (λ a h. handle-read c.args.share c.args.positions store line q a
    (c.one_query.ensures.unique line) reads h) c.answer_query.ensures.reply

pub returns-in-Ok-Ask-clause-deep : goal.returns-in-Ok-Ask-clause-deep
returns-in-Ok-Ask-clause-deep g c =
    let q = question_of c.in-Ok-Ask.query in
    let line = c.args.line.now in
    let store = g.S.CellStore.state c.answer_query.new.store in
    let reads : Reads line q = rw c.in-Ok-Ask.field-0-is at c.in-Ok-Ask.ensures.read in
    if_ok_map (λ (a : Answered). IsAnswered c.args.share c.args.positions store q a) (λ
    (a : Answered). IsDeepAt c.args.share c.args.positions line) c.answer_query.result
    (λ a h. deep-read c.args.share c.args.positions store line q a
    (c.one_query.ensures.unique line) reads h) c.answer_query.ensures.reply

pub returns-in-Ok-Ask-clause-keeps : goal.returns-in-Ok-Ask-clause-keeps
returns-in-Ok-Ask-clause-keeps g c = c.answer_query.ensures.keeps

pub returns-in-Ok-Ask-clause-spare : goal.returns-in-Ok-Ask-clause-spare
returns-in-Ok-Ask-clause-spare g c = c.answer_query.ensures.spare

pub returns-in-Err-Syntax-clause-reply : goal.returns-in-Err-Syntax-clause-reply
returns-in-Err-Syntax-clause-reply g c =
    let line = c.args.line.now in
    let unread : IsUnread line c.in-Err-Syntax.column = rw c.in-Err-Syntax.field-0-is at
    c.in-Err-Syntax.ensures.refused in
    if_ok_map (λ (a : Answered). IsRefusedBy (syntax_at c.in-Err-Syntax.column) a) (λ
    (a : Answered). IsReply c.args.share c.args.positions line (shown a)) c.refuse_syntax.result
    (λ a h. reply-unread c.args.share c.args.positions line c.in-Err-Syntax.column (shown a)
    (c.one_query.ensures.one_column line) unread h.text) c.refuse_syntax.ensures

pub returns-in-Err-Syntax-clause-handle : goal.returns-in-Err-Syntax-clause-handle
returns-in-Err-Syntax-clause-handle g c =
    let line = c.args.line.now in
    let store = g.S.CellStore.state c.args.store.now in
    let unread : IsUnread line c.in-Err-Syntax.column = rw c.in-Err-Syntax.field-0-is at
    c.in-Err-Syntax.ensures.refused in
    if_ok_map (λ (a : Answered). IsRefusedBy (syntax_at c.in-Err-Syntax.column) a) (λ
    (a : Answered). HandleOf store line a.refused a.handle) c.refuse_syntax.result
    (λ a h. handle-unread store line c.in-Err-Syntax.column a unread h.handle) c.refuse_syntax.ensures

pub returns-in-Err-Syntax-clause-deep : goal.returns-in-Err-Syntax-clause-deep
returns-in-Err-Syntax-clause-deep g c =
    let line = c.args.line.now in
    let unread : IsUnread line c.in-Err-Syntax.column = rw c.in-Err-Syntax.field-0-is at
    c.in-Err-Syntax.ensures.refused in
    if_ok_map (λ (a : Answered). IsRefusedBy (syntax_at c.in-Err-Syntax.column) a) (λ
    (a : Answered). IsDeepAt c.args.share c.args.positions line) c.refuse_syntax.result
    (λ a h. deep-unread c.args.share c.args.positions line c.in-Err-Syntax.column unread) c.refuse_syntax.ensures

pub returns-in-Err-Syntax-clause-keeps : goal.returns-in-Err-Syntax-clause-keeps
returns-in-Err-Syntax-clause-keeps g c = keeps_store-same (g.S.CellStore.state c.args.store.now)

pub returns-in-Err-Syntax-clause-spare : goal.returns-in-Err-Syntax-clause-spare
returns-in-Err-Syntax-clause-spare g c = omega arith

pub returns-in-Err-Memory-clause-keeps : goal.returns-in-Err-Memory-clause-keeps
returns-in-Err-Memory-clause-keeps g c = keeps_store-same (g.S.CellStore.state c.args.store.now)

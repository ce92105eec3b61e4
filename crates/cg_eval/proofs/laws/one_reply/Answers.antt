use Rattle.cg_eval.proofs.Replies.{one-reply, some-reply}
use Rattle.cg_eval.proofs.laws.one_reply.Goals as goal

pub returns-clause-some : goal.returns-clause-some
returns-clause-some c share limit line blank comment =
    some-reply share limit line (c.one_query.ensures.unique line)
    (c.one_query.ensures.one_column line) blank comment (c.one_query.ensures.decided line)

pub returns-clause-unique : goal.returns-clause-unique
returns-clause-unique c share limit line p r blank comment a b = one-reply share limit line p r blank comment
    (c.one_query.ensures.decided line) a b

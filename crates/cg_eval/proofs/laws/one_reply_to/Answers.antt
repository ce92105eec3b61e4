use Rattle.cg_eval.specs.Faults.{question_fault}
use Rattle.cg_eval.proofs.Replies.{one-reply_by, some-reply_by}
use Rattle.cg_eval.proofs.laws.one_reply_to.Goals as goal

pub returns-clause-some : goal.returns-clause-some
returns-clause-some c share limit q = some-reply_by (question_fault q) share limit q

pub returns-clause-unique : goal.returns-clause-unique
returns-clause-unique c share limit q p r a b = one-reply_by (question_fault q) share limit q p r a b

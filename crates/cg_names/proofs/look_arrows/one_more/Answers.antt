use Rattle.cg_names.proofs.Looks.{on-none}
use Rattle.cg_names.proofs.look_arrows.one_more.Goals as goal

pub returns-in-None-clause-more : goal.returns-in-None-clause-more
returns-in-None-clause-more c g i e = on-none c.args.x c.args.down g (c.in-None.ensures.arrows g i e) i

pub returns-in-Some-clause-more : goal.returns-in-Some-clause-more
returns-in-Some-clause-more c g i e = c.one_more_than.ensures.more g i (c.in-Some.ensures.arrows g i e)

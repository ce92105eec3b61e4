use Rattle.cg_sum.proofs.firsts.charged_again.Goals as goal

pub returns-then-n-costs-clause-passed : goal.returns-then-n-costs-clause-passed
returns-then-n-costs-clause-passed g c = c.charge_again.ensures.charged _ (c.requires.each c.args.n c.if-n-costs.true)

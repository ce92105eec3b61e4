use Rattle.cg_shared.proofs.Turning.{turns_end}
use Rattle.cg_shared.proofs.search.search.Goals as goal

pub returns-clause-made : goal.returns-clause-made
returns-clause-made g c = let a = c.in_default.ensures.made in let b = c.in-Some-claim_among.ensures.made in turns_end c.args.key a.0 b.0 _ _ _ a.1 b.1

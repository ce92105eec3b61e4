use Rattle.cg_shared.proofs.Telling.{claim_tells}
use Rattle.cg_shared.proofs.search.claim.Goals as goal

pub returns-clause-stands : goal.returns-clause-stands
returns-clause-stands g c = (claim_tells g.F.Facts.meaning _ _ c.args.seat.now.me.0 c.search.new.seat.me.0 _ _ c.search.ensures.same.0 c.requires.search.spare c.requires.search.spells c.search.ensures.hit).stands

pub returns-clause-again : goal.returns-clause-again
returns-clause-again g c = (claim_tells g.F.Facts.meaning _ _ c.args.seat.now.me.0 c.search.new.seat.me.0 _ _ c.search.ensures.same.0 c.requires.search.spare c.requires.search.spells c.search.ensures.hit).again

pub returns-clause-spends : goal.returns-clause-spends
returns-clause-spends g c = (claim_tells g.F.Facts.meaning _ _ c.args.seat.now.me.0 c.search.new.seat.me.0 _ _ c.search.ensures.same.0 c.requires.search.spare c.requires.search.spells c.search.ensures.hit).spends

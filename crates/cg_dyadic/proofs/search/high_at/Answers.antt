use Rattle.cg_dyadic.proofs.Shifts.{high_none, high_word}
use Rattle.cg_dyadic.proofs.search.high_at.Goals as goal

pub returns-in-None : goal.returns-in-None
returns-in-None c = high_none c.args.end c.args.scale c.in-None.is

pub returns-in-Some : goal.returns-in-Some
returns-in-Some c = high_word c.args.end c.args.scale c.in-Some.n c.in-Some.is c.requires.small

use Rattle.cg_dyadic.proofs.Shifts.{low_none, low_word}
use Rattle.cg_dyadic.proofs.search.low_at.Goals as goal

pub returns-in-None : goal.returns-in-None
returns-in-None c = low_none c.args.end c.args.scale c.in-None.is

pub returns-in-Some : goal.returns-in-Some
returns-in-Some c = low_word c.args.end c.args.scale c.in-Some.n c.in-Some.is c.requires.small

use Rattle.cg_canon.proofs.KnownGames.{same_sum}
use Rattle.cg_canon.proofs.number_up_star.NumberUpStar.is.Goals as goal

pub returns : goal.returns
returns c t = same_sum c.args.self.now c.args.other.now c.eq.result c.eq.ensures t

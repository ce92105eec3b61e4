use Rattle.cg_names.proofs.Indexes.{first_is}
use Rattle.cg_names.proofs.look_arrows.up_star.Goals as goal

pub returns-in-None : goal.returns-in-None
returns-in-None c x u = c.in-None.ensures x x (first_is _ _ _ _ _ c.first-item.is u.own) u.last

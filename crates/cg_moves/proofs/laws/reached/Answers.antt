use Rattle.cg_moves.proofs.Bounds.{reached-moves}
use Rattle.cg_moves.proofs.laws.reached.Goals as goal

pub returns : goal.returns
returns g c = λ p has. reached-moves (g.R.Rules.game c.args.rules.now) c.lawful.ensures.moves p has

use Rattle.cg_moves.proofs.Bounds.{raw-moves}
use Rattle.cg_moves.proofs.laws.trees.Goals as goal

pub returns : goal.returns
returns g c = λ p has. raw-moves (g.R.Rules.game c.args.rules.now) c.lawful.ensures.moves p has

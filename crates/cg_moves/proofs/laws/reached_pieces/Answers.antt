use Rattle.cg_moves.proofs.Bounds.{piece_reached-moves}
use Rattle.cg_moves.proofs.laws.reached_pieces.Goals as goal

pub returns : goal.returns
returns g c = λ p cuts has. let lawful = c.lawful.ensures in
    piece_reached-moves (g.R.Rules.game c.args.rules.now) lawful.moves (lawful.cut cuts).each p has

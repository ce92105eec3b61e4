use Rattle.cg_strip.proofs.WholeRules.{one_reading}
use Rattle.cg_strip.proofs.laws.one_game.Goals as goal

pub returns : goal.returns
returns c = one_reading

use Rattle.cg_example_game.proofs.ShoveLaw.{shove_lawful}
use Rattle.cg_example_game.proofs.shove.ShoveRules.lawful.Goals as goal

pub returns : goal.returns
returns c = shove_lawful

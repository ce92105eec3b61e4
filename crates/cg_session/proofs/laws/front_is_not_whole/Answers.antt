use Rattle.cg_session.proofs.Fronts.{front-not-whole}
use Rattle.cg_session.proofs.laws.front_is_not_whole.Goals as goal

pub returns : goal.returns
returns c = front-not-whole

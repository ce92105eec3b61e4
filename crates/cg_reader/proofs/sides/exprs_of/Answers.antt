use Rattle.cg_reader.proofs.SoundSides.{exprs_push}
use Rattle.cg_reader.proofs.sides.exprs_of.Goals as goal

pub loop-found-preserved : goal.loop-found-preserved
loop-found-preserved c = rw c.in_ok-push.ensures.items (exprs_push c.loop-found.exprs.items c.loop-found.yielded c.in-Some.found c.loop-found.invariant)

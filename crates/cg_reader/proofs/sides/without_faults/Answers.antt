use Rattle.cg_reader.proofs.SoundSides.{sound_push}
use Rattle.cg_reader.proofs.sides.without_faults.Goals as goal

pub loop-expr-preserved : goal.loop-expr-preserved
loop-expr-preserved c = rw c.in_ok-push.ensures.items (sound_push c.loop-expr.founds.items c.loop-expr.yielded c.in-Some.expr c.loop-expr.invariant)

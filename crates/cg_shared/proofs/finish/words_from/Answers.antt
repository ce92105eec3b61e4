use Rattle.cg_shared.proofs.Ending.{copied}
use Rattle.cg_shared.proofs.finish.words_from.Goals as goal

pub loop-i-preserved : goal.loop-i-preserved
loop-i-preserved c = copied c.loop-i.words.items _ _ c.word.result c.loop-i.i c.args.first c.in_ok-push.ensures.items c.loop-i.invariant.0 c.loop-i.invariant.1 c.word.ensures

use Rattle.cg_arena.proofs.Reaching.{bounds_more}
use Rattle.cg_arena.proofs.reach.Bounds.with.Goals as goal

pub returns : goal.returns
returns c = λ gs g h p.
    bounds_more gs g c.args.self.now c.args.game.now c.min.result c.min-2.result c.max.result c.max-2.result
    c.min.ensures.value c.min-2.ensures.value c.max.ensures.value c.max-2.ensures.value h p

use Rattle.cg_eval.proofs.telling.drawn.Goals as goal

pub returns-in_ok-text-in-Ok-clause-drawn : goal.returns-in_ok-text-in-Ok-clause-drawn
returns-in_ok-text-in-Ok-clause-drawn g c = (c.in-Ok.ensures.enough, (c.in-Ok.walls, c.in-Ok.ensures.walls, c.in_ok-text-in-Ok.ensures))

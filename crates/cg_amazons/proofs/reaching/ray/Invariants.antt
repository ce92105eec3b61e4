use Rattle.cg_amazons.proofs.RayLines.{IsRayTo}
use Rattle.cg_amazons.proofs.reaching.ray.Given as goal

abbrev pub invariant-loop-turn : goal.invariant-loop-turn
invariant-loop-turn l = IsRayTo l.shape.rows l.shape.columns l.free l.way l.cell l._turn l.at l.found

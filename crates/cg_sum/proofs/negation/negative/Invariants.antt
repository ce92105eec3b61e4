use Rattle.cg_arena.specs.Arena.{games_of}
use Rattle.cg_canon.specs.Walk.{indexes_of}
use Rattle.cg_sum.proofs.negation.negative.Given as goal

abbrev pub ghost-add_negatives : goal.ghost-add_negatives
ghost-add_negatives g a = games_of a.work.now.arena (indexes_of a.walk.now.positions.items)

use Rattle.cg_arena.specs.Arena.{games_of}
use Rattle.cg_canon.specs.Walk.{indexes_of}
use Rattle.cg_sum.proofs.addition.other_sum.Given as goal

abbrev pub ghost-add_rows : goal.ghost-add_rows
ghost-add_rows g a = (
  games_of a.work.now.arena (indexes_of a.terms.now.firsts.positions.items),
  games_of a.work.now.arena (indexes_of a.terms.now.seconds.positions.items),
)

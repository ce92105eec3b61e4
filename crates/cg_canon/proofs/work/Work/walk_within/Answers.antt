use Rattle.std.proofs.Common.{ap}
use Rattle.std.specs.Prelude.{Err}
use Rattle.std.proofs.lemmas.Result.{err_from_is_err_and}
use Rattle.cg_nodes.proofs.Outcomes.{passed_on}
use Rattle.cg_arena.specs.Arena.{game_of}
use Rattle.cg_canon.proofs.InternerHandles.{games_apart}
use Rattle.cg_canon.proofs.WalkSteps.{walk_all, walk_longer, walk_within}
use Rattle.cg_canon.proofs.work.Work.walk_within.Goals as goal

pub walk_game-requires-clause-apart : goal.walk_game-requires-clause-apart
walk_game-requires-clause-apart g c =
    games_apart (g.S.CellStore.state c.self.inside.store.now) c.self.inside.cache.memo.interner c.self.invariant.1.interner c.apart.ensures

pub returns-in_err-walk_game-clause-refused : goal.returns-in_err-walk_game-clause-refused
returns-in_err-walk_game-clause-refused g c =
    let gs = c.self.inside.cache.memo.interner.arena in
    let p = err_from_is_err_and c.from_residual-in_err-walk_game.result c.from_residual-in_err-walk_game.ensures.1 in λ e.
    let r = c.in_err-walk_game.ensures.refused
    (ap Err (passed_on p.0 c.in_err-walk_game.field-0.0 c.from_residual-in_err-walk_game.result p.1 p.2 e)) in (
      rw (← c.self.view_is) (walk_longer gs (game_of gs c.args.game) c.in_ok-walk.walk.positions.items c.in_ok-walk.ensures.positions
          c.args.limit r.0),
      r.1,
    )

pub returns-clause-walk : goal.returns-clause-walk
returns-clause-walk g c =
    let gs = c.self.inside.cache.memo.interner.arena in
    rw (← c.self.view_is) (walk_all gs (game_of gs c.args.game) c.in_ok-walk.walk.positions.items c.in_ok-walk.ensures.positions
    c.walk_game.new.marks c.walk_game.new.walk c.in_ok-walk_game.ensures.stands c.in_ok-walk_game.ensures.all)

pub returns-clause-within : goal.returns-clause-within
returns-clause-within g c =
    let gs = c.self.inside.cache.memo.interner.arena in
    rw (← c.self.view_is) (walk_within gs (game_of gs c.args.game) c.in_ok-walk.walk.positions.items c.in_ok-walk.ensures.positions
    c.walk_game.new.marks c.walk_game.new.walk c.in_ok-walk_game.ensures.stands c.in_ok-walk_game.ensures.all c.args.limit
    c.in_ok-walk_game.ensures.within)

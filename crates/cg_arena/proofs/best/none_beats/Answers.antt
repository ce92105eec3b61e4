use Rattle.cg_arena.specs.Arena.{game_of, games_of}
use Rattle.cg_arena.proofs.Reaching.{none_beats_all}
use Rattle.cg_arena.proofs.best.none_beats.Goals as goal

pub returns-then-are_passed-clause-order : goal.returns-then-are_passed-clause-order
returns-then-are_passed-clause-order c =
    let x = game_of c.args.arena.now c.args.x in
    let all = games_of c.args.arena.now c.args.items.now in
    none_beats_all c.args.left x all (c.are_passed.ensures all x c.requires.bounds c.keys.ensures c.if-are_passed.true)

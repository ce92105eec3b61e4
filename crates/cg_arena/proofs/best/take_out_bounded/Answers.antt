use Rattle.cg_arena.specs.Arena.{game_of, games_of}
use Rattle.cg_arena.proofs.Reaching.{all_kept}
use Rattle.cg_arena.proofs.best.take_out_bounded.Goals as goal

pub returns-then-are_passed-clause-kept : goal.returns-then-are_passed-clause-kept
returns-then-are_passed-clause-kept c =
    let x = game_of c.args.arena.now c.args.x in
    let all = games_of c.args.arena.now c.args.items.now.items in
    all_kept c.args.left x all (c.are_passed.ensures all x c.requires.bounds c.keys.ensures c.if-are_passed.true)

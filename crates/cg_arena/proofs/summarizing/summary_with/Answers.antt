use Rattle.std.proofs.Common.{arith}
use Rattle.std.proofs.lemmas.List.{length-map}
use Rattle.cg_arena.specs.Arena.{game_of, games_of}
use Rattle.cg_arena.proofs.Profiling.{summary_from_cuts}
use Rattle.cg_arena.proofs.summarizing.summary_with.Goals as goal

pub returns : goal.returns
returns c =
    let gs = c.args.arena.now in
    summary_from_cuts (games_of gs c.args.lefts.now) (games_of gs c.args.rights.now) _ c.requires.low c.requires.high
    (omega (arith, c.max-deepest.ensures, c.deepest_of.ensures.deepest, c.deepest_of-2.ensures.deepest))
    (omega (arith, c.cost_of_lists.ensures.cost, length-map c.args.lefts.now (game_of gs), length-map c.args.rights.now (game_of gs)))
    c.cost_of_lists.ensures.small

-- The arena goes on while the second index is found.
use Rattle.std.proofs.Common.{ap, ◌∙◌}
use Rattle.cg_nodes.proofs.Later.{game_later}
use Rattle.cg_canon.proofs.InternerSteps.{at_later}
use Rattle.cg_canon.specs.Works.{work_state}
use Rattle.cg_arena.specs.Arena.{game_of}
use Rattle.cg_cert.specs.Pairs.{pair}
use Rattle.cg_nodes.specs.Games.{game_at}
use Rattle.cg_cert.proofs.stage.stage_of.Goals as goal

pub returns-clause-stands : goal.returns-clause-stands
returns-clause-stands g c =
    ((at_later _ _ _ _ c.game-2.ensures.begins c.in_ok-first.ensures.game).within, c.in_ok-second.ensures.game.within)

pub returns-clause-pair : goal.returns-clause-pair
returns-clause-pair g c =
    let W = work_state g.S.CellStore.state in
    let first = at_later _ _ _ _ c.game-2.ensures.begins c.in_ok-first.ensures.game in
    ap (λ z. pair z (game_of c.game-2.new.self.arena c.in_ok-second.second)) first.is
    ∙ ap (pair (game_at (W c.args.work.now) c.args.g)) (c.in_ok-second.ensures.game.is
    ∙ game_later (W c.args.work.now) (W c.game.new.self) c.game.ensures.spends.known c.args.h c.requires.h)

use Rattle.cg_arena.specs.Arena.{game_of}
use Rattle.cg_canon.proofs.Recognizing.{has_nimber}
use Rattle.cg_canon.proofs.work.Work.nimber_of_game.Goals as goal

pub returns-then-is : goal.returns-then-is
returns-then-is g c =
    has_nimber (game_of c.args.self.now.arena c.args.game) c.in_ok-parts.parts.now c.of_nimber.result c.in_ok-parts.parts.now.star
    c.in_ok-parts.ensures.parts (c.is.ensures c.if-is.true) c.of_nimber.ensures.number c.of_nimber.ensures.ups c.of_nimber.ensures.star

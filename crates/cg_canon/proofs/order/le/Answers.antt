use Rattle.std.proofs.Common.{ap, ◌∙◌}
use Rattle.cg_form.specs.Order.{le}
use Rattle.cg_nodes.specs.Games.{game_at}
use Rattle.cg_nodes.proofs.Later.{game_later}
use Rattle.cg_arena.proofs.Results.{if_ok}
use Rattle.cg_arena.specs.Arena.{game_of}
use Rattle.cg_canon.specs.Works.{work_state}
use Rattle.cg_canon.proofs.InternerSteps.{game_begins, index_begins}
use Rattle.cg_canon.proofs.order.le.Goals as goal

pub le-requires-clause-a : goal.le-requires-clause-a
le-requires-clause-a g c =
    index_begins c.game.new.self.arena c.game-2.new.self.arena c.in_ok-first.first c.game-2.ensures.begins c.in_ok-first.ensures.game.within

pub returns-clause-order : goal.returns-clause-order
returns-clause-order g c =
    let W = work_state g.S.CellStore.state in
    let later = c.game-2.new.self.arena in
    let first = game_begins c.game.new.self.arena later c.in_ok-first.first c.game-2.ensures.begins c.in_ok-first.ensures.game.within
    ∙ c.in_ok-first.ensures.game.is in
    let second = c.in_ok-second.ensures.game.is
    ∙ game_later (W c.args.work.now) (W c.game.new.self) c.game.ensures.spends.known c.args.b c.requires.b in
    if_ok c.le.result _ _ c.le.ensures.order
    (λ r e. e ∙ ap (λ z. le z (game_of later c.in_ok-second.second)) first ∙ ap (le (game_at (W c.args.work.now) c.args.a)) second)

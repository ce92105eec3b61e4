use Rattle.std.proofs.Common.{ap, ◌∙◌, pos}
use Rattle.cg_dyadic.specs.Number.{Number, whole}
use Rattle.cg_form.specs.Game.{Game, number}
use Rattle.cg_form.specs.Order.{le}
use Rattle.cg_canon.specs.Works.{work_state}
use Rattle.cg_nodes.specs.Games.{game_at}
use Rattle.cg_nodes.proofs.Later.{game_later}
use Rattle.cg_thermo.specs.Winners.{winner_by}
use Rattle.cg_thermo.proofs.Wins.{wins}
use Rattle.cg_thermo.proofs.deciding.outcome.Goals as goal

pub returns-clause-outcome : goal.returns-clause-outcome
returns-clause-outcome g c =
    let W = work_state g.S.CellStore.state in
    let x = game_at (W c.args.work.now) c.args.a in
    let same = game_later (W c.args.work.now) (W c.number_le.new.work) c.number_le.ensures.spends.known c.args.a c.requires in
    c.by_order.ensures
    ∙ ap (λ b. winner_by b c.in_ok-at_most.at_most) (c.in_ok-at_least.ensures.order ∙ ap (λ (z : Number). le (number z) x) c.zero.ensures)
    ∙ ap (winner_by (le (number (whole (pos 0))) x)) (c.in_ok-at_most.ensures.order
    ∙ ap (λ (z : Game). le z (number c.zero-2.result)) same ∙ ap (λ (z : Number). le x (number z)) c.zero-2.ensures)
    ∙ wins x

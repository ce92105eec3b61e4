use Rattle.std.proofs.Common.{◌≡◌, ap, ◌∙◌, Bool}
use Rattle.cg_canon.specs.Works.{work_state}
use Rattle.cg_form.specs.Game.{Game}
use Rattle.cg_form.specs.Order.{le}
use Rattle.cg_nodes.specs.Games.{game_at}
use Rattle.cg_nodes.proofs.Later.{game_later}
use Rattle.cg_eval.specs.Reply.{comparison}
use Rattle.cg_eval.proofs.telling.compared.Goals as goal

pub returns-clause-text : goal.returns-clause-text
returns-clause-text g c =
    let s = work_state g.S.CellStore.state c.args.work.now in
    let t = work_state g.S.CellStore.state c.le.new.work in
    let a = game_at s c.args.a in
    let b = game_at s c.args.b in
    let grows = c.le.ensures.spends.known in
    let low : c.in_ok-at_most.at_most ≡ le a b = c.in_ok-at_most.ensures.order in
    let high : c.in_ok-at_least.at_least ≡ le b a = c.in_ok-at_least.ensures.order
    ∙ ap (λ (z : Game). le z (game_at t c.args.a)) (game_later s t grows c.args.b c.requires.b)
    ∙ ap (le b) (game_later s t grows c.args.a c.requires.a) in
    c.comparison.ensures ∙ ap (λ (z : Bool). comparison z c.in_ok-at_least.at_least) low ∙ ap (comparison (le a b)) high

use Rattle.cg_canon.specs.Works.{work_state}
use Rattle.cg_values.proofs.ItemSteps.{options_later}
use Rattle.cg_values.proofs.NoteSteps.{noted-then, on_ok_any}
use Rattle.cg_values.proofs.item.noted_item.Goals as goal

pub made_item-requires-clause-options : goal.made_item-requires-clause-options
made_item-requires-clause-options g c =
    options_later (work_state g.S.CellStore.state c.args.work.now) (work_state g.S.CellStore.state c.noted.new.self)
    (g.R.Rules.game c.args.rules.now) c.args.board.now c.args.options.now c.noted.ensures.spends.known c.requires.options

pub returns-in-Some-clause-noted : goal.returns-in-Some-clause-noted
returns-in-Some-clause-noted g c =
    let W = work_state g.S.CellStore.state in
    let keeps = c.item_of.ensures.given.gives.made.keeps in
    on_ok_any c.item_of.result (noted-then (W c.args.work.now) (W c.item_of.new.work) (g.R.Rules.game c.args.rules.now)
    (λ i x e. keeps.known i x (c.noted.ensures.spends.known i x e)) c.args.board.now c.args.cell c.requires.cell
    (keeps.noted c.args.cell c.in-Some.ensures.some))

use Rattle.cg_canon.specs.Works.{work_state}
use Rattle.cg_values.proofs.ItemSteps.{options_later}
use Rattle.cg_values.proofs.NoteSteps.{noted-then}
use Rattle.cg_values.proofs.item.numbered_item.Goals as goal

pub noted_item-requires-clause-options : goal.noted_item-requires-clause-options
noted_item-requires-clause-options g c =
    options_later (work_state g.S.CellStore.state c.args.work.now) (work_state g.S.CellStore.state c.cell_of-cell.new.work)
    (g.R.Rules.game c.args.rules.now) c.args.board.now c.args.options.now c.cell_of-cell.ensures.spends.known
    c.requires.options

pub returns-clause-noted : goal.returns-clause-noted
returns-clause-noted g c =
    noted-then (work_state g.S.CellStore.state c.cell_of-cell-2.new.work) (work_state g.S.CellStore.state c.note.new.self)
    (g.R.Rules.game c.args.rules.now) c.note.ensures.spends.known c.args.board.now _ c.cell_of-cell-2.ensures.cell
    c.note.ensures.noted

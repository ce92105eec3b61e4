use Rattle.std.proofs.Common.{sym, ◌∙◌, ap}
use Rattle.cg_canon.specs.Works.{work_state}
use Rattle.cg_nodes.specs.Boards.{symbols}
use Rattle.cg_values.proofs.ItemSteps.{contents-fit}
use Rattle.cg_values.proofs.NoteSteps.{cell-of, note-due}
use Rattle.cg_values.proofs.item.cell_of.Goals as goal

pub board_cell-requires-clause-written : goal.board_cell-requires-clause-written
board_cell-requires-clause-written g c =
    let p = c.args.board.now in
    let grid = c.size-size.ensures.grid in
    contents-fit p c.number.result c.rows.result c.columns.result c.args.contents.now grid
    (c.requires.numbered.as_many p grid c.requires.has ∙ ap symbols (sym c.number.ensures)) c.rows.ensures.value
    c.columns.ensures.value c.requires.written

pub returns-clause-cell : goal.returns-clause-cell
returns-clause-cell g c =
    cell-of (work_state g.S.CellStore.state c.board_cell.new.store) (g.R.Rules.game c.args.rules.now) c.args.board.now _ _ _ _ _
    c.number.ensures c.rows.ensures.value c.columns.ensures.value c.requires.written c.board_cell.ensures.stands

pub returns-clause-due : goal.returns-clause-due
returns-clause-due g c =
    let s = work_state g.S.CellStore.state c.board_cell.new.store in
    let r = g.R.Rules.game c.args.rules.now in
    note-due s r g.B.BoardForms.form c.args.board.now _ c.requires.numbered c.size-size.ensures.grid c.requires.has
    (cell-of s r c.args.board.now _ _ _ _ _ c.number.ensures c.rows.ensures.value c.columns.ensures.value c.requires.written
    c.board_cell.ensures.stands)

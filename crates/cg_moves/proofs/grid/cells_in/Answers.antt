use Rattle.std.proofs.Common.{◌∙◌, ◌<◌, sym, refl, arith, get_or, length-set}
use Rattle.std.proofs.lemmas.List.{take_more_set}
use Rattle.cg_moves.proofs.TextLemmas.{cell-put, room, which_cell}
use Rattle.cg_moves.proofs.grid.cells_in.Goals as goal

pub bounds-cells-size : goal.bounds-cells-size
bounds-cells-size c =
    let byte = get_or c.args.text.now c.loop-byte.byte-index 0 in
    let l = c.loop-byte.invariant.long in
    let f = c.loop-byte.invariant.few in
    let is = sym c.is_cell.ensures ∙ c.if-not-is_cell.false in
    room _ c.loop-byte.cells _ c.loop-byte.size byte c.requires (omega arith)
    (cell-put c.args.text.now c.loop-byte.byte-index byte c.loop-byte-test.true refl c.args.one_row _ _ _
    c.loop-byte.invariant.rest refl (which_cell c.args.one_row byte is))

pub loop-byte-preserved : goal.loop-byte-preserved
loop-byte-preserved c =
    let byte = get_or c.args.text.now c.loop-byte.byte-index 0 in
    let l = c.loop-byte.invariant.long in
    let b : c.loop-byte.size < 64 = bounds-cells-size c in
    let is = sym c.is_cell.ensures ∙ c.if-not-is_cell.false in
    record {
      long = length-set c.loop-byte.cells c.loop-byte.size _ ∙ l;
      few = omega arith;
      rest = cell-put c.args.text.now c.loop-byte.byte-index byte c.loop-byte-test.true refl c.args.one_row _ _ _
          c.loop-byte.invariant.rest (take_more_set c.loop-byte.cells c.loop-byte.size byte (omega arith))
          (which_cell c.args.one_row byte is);
    }

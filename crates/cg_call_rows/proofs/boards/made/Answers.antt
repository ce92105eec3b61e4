use Rattle.std.proofs.Common.{◌∙◌}
use Rattle.cg_moves.proofs.Carried.{carry_cells}
use Rattle.cg_call_rows.proofs.boards.made.Goals as goal

pub make-requires-clause-cells : goal.make-requires-clause-cells
make-requires-clause-cells c =
    carry_cells _ _ _ _ c.symbols.ensures.value (c.as_slice.ensures ∙ c.in_ok-cells.ensures.value) c.symbols.ensures.grid.cells

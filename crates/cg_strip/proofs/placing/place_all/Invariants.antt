use Rattle.std.proofs.Common.{◌≡◌, ◌++◌, map}
use Rattle.cg_moves.specs.Grid.{with_cells}
use Rattle.cg_strip.specs.Placing.{placed_below}
use Rattle.cg_strip.proofs.placing.place_all.Given as goal

abbrev pub invariant-loop-cell : goal.invariant-loop-cell
invariant-loop-cell l = l.boards.items ≡ l.initial.boards.items ++ map (with_cells l.board) (placed_below l.pattern l.replacement l.board.cells l.cell)

use Rattle.std.proofs.Common.{◌≡◌, ◌+◌, ◌++◌, drop, take}
use Rattle.cg_moves.specs.Grid.{with_cells}
use Rattle.cg_strip.proofs.hopping.hopped.Given as goal

abbrev pub invariant-loop-offset : goal.invariant-loop-offset
invariant-loop-offset l =
    l.after ≡ with_cells l.board (take l.cell l.board.cells ++ (take l.offset l.replacement ++ drop (l.cell + l.offset) l.board.cells))

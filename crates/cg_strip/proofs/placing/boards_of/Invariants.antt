use Rattle.std.proofs.Common.{◌≡◌, map, take}
use Rattle.std.specs.List.{flat_map}
use Rattle.cg_moves.specs.Grid.{with_cells}
use Rattle.cg_strip.specs.Placing.{placements}
use Rattle.cg_strip.proofs.placing.boards_of.Given as goal

abbrev pub invariant-loop-rule : goal.invariant-loop-rule
invariant-loop-rule l =
    l.boards.items ≡ map (with_cells l.board) (flat_map (placements l.player l.board.cells) (take l.rule-index l.rules))

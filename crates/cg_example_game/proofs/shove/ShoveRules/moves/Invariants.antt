use Rattle.std.proofs.Common.{◌≡◌, map}
use Rattle.std.specs.List.{flat_map}
use Rattle.cg_moves.specs.Grid.{with_cells}
use Rattle.cg_moves.specs.Rising.{counted}
use Rattle.cg_example_game.specs.Shove.{moves_at}
use Rattle.cg_example_game.proofs.shove.ShoveRules.moves.Given as goal

abbrev pub invariant-loop-at : goal.invariant-loop-at
invariant-loop-at l = l.boards.items ≡ map (with_cells l.board) (flat_map (moves_at l.player l.board) (counted 0 l.at))

use Rattle.std.proofs.Common.{◌≡◌, ◌++◌, drop}
use Rattle.cg_walls.proofs.Kept.{kept}
use Rattle.cg_walls.proofs.turning.turned.Given as goal

abbrev pub invariant-loop-turn : goal.invariant-loop-turn
invariant-loop-turn l = l.turns.items ++ kept l.end l.up (drop l.turn-index l.rise.turns.items) ≡ kept l.end l.first l.rise.turns.items

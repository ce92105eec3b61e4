use Rattle.std.proofs.Common.{◌+◌, List, take}
use Rattle.cg_arena.specs.Arena.{games_of}
use Rattle.cg_form.specs.Game.{Game}
use Rattle.cg_walls.specs.Rises.{IsWall}
use Rattle.cg_thermo.specs.Progress.{AreWallPairs}
use Rattle.cg_thermo.specs.HighestWalls.{IsHighestWall}
use Rattle.cg_thermo.proofs.highest_walls.highest_wall.Given as goal

abbrev pub invariant-loop-place : goal.invariant-loop-place
invariant-loop-place l =
    IsWall l.highest_wall × ((games : List Game) → AreWallPairs games l.wall_pairs → IsHighestWall l.right (games_of games (take (l.place-index + 1) l.places))
    l.highest_wall)

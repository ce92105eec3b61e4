-- How far the pairs of walls of the positions of a game have come.
use Rattle.std.specs.Prelude.{◌≡◌, ℕ, ◌<◌, List, get_or, length}
use Rattle.cg_arena.specs.Arena.{game_of, games_of}
use Rattle.cg_canon.specs.Walk.{indexes_of}
use Rattle.cg_canon.specs.declared.walk.Walk.{Walk}
use Rattle.cg_dyadic.specs.Number.{Number, exp_of}
use Rattle.cg_dyadic.specs.Wide.{places}
use Rattle.cg_form.specs.Game.{Among, Game}
use Rattle.cg_form.specs.Walls.{IsThermal}
use Rattle.cg_thermo.specs.declared.wall_pair.WallPair.{WallPair}
use Rattle.cg_thermo.specs.Draws.{Draws}
use Rattle.cg_thermo.specs.Smooths.{Smooth}

-- the games of the positions that were walked
abbrev pub walked : List Game → Walk → List Game
walked gs w = games_of gs (indexes_of w.positions.items)

-- the pair of walls is that of the game, whose temperatures need no more places
pub record HasWallPair (g : Game) (c : WallPair) : Type 0 where
  pub smooth : Smooth places g
  pub draws : Draws g c

-- the pairs of walls are those of the first games
pub record AreWallPairs (games : List Game) (wall_pairs : List WallPair) : Type 0 where
  pub each : (i : ℕ) (c : WallPair) → i < length wall_pairs → c ≡ get_or wall_pairs i c → HasWallPair (game_of games i) c

-- the temperature of the game needs more places
pub record Rough (g : Game) : Type 0 where
  pub mean : Number
  pub temp : Number
  pub thermal : IsThermal g mean temp
  pub more : places < exp_of temp

-- some game of the list has a temperature that needs more places
pub record SomeRough (games : List Game) : Type 0 where
  pub game : Game
  pub among : Among game games
  pub rough : Rough game

use Rattle.std.proofs.Common.{◌≡◌, ◌+◌, ◌*◌, ◌≤◌, length, take}
use Rattle.cg_form.specs.Depth.{deepest, depth_of}
use Rattle.cg_form.specs.Extended.{extended}
use Rattle.cg_arena.specs.Arena.{game_of, games_of}
use Rattle.cg_canon.specs.Walking.{WalkStands, found_in}
use Rattle.cg_canon.proofs.WalkSteps.{walk_over}
use Rattle.cg_canon.proofs.walking.+walk.Given as goal

abbrev pub decreases-walk_options : goal.decreases-walk_options
decreases-walk_options l = 3 * depth_of (game_of l.arena.now l.game)

abbrev pub decreases-walk_game : goal.decreases-walk_game
decreases-walk_game l = 3 * depth_of (game_of l.arena.now l.game) + 1

abbrev pub decreases-walk_games : goal.decreases-walk_games
decreases-walk_games l = 3 * deepest (games_of l.arena.now l.games.now) + 2

abbrev pub invariant-walk_games-loop-game : goal.invariant-walk_games-loop-game
invariant-walk_games-loop-game l = record {
  stands : WalkStands l.arena l.marks l.walk.positions.items l.walk.options.items;
  walked : found_in l.arena l.walk.positions.items ≡ extended (found_in l.arena l.initial.walk.positions.items)
      (walk_over l.arena (take l.game-index l.games));
  room : length l.marks ≡ length l.initial.marks;
  within : length l.walk.positions.items ≤ l.limit;
}

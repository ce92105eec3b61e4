use Rattle.std.proofs.Common.{◌+◌, ◌*◌, max}
use Rattle.cg_form.specs.Depth.{deepest, depth_of}
use Rattle.cg_arena.specs.Arena.{game_of, games_of}
use Rattle.cg_names.proofs.look.+look.Given as goal

abbrev pub decreases-named_form : goal.decreases-named_form
decreases-named_form l = 8 * max (deepest (games_of l.arena.now l.lefts.now))
    (deepest (games_of l.arena.now l.rights.now)) + 7

abbrev pub decreases-named_by_shape : goal.decreases-named_by_shape
decreases-named_by_shape l = 8 * max (deepest (games_of l.arena.now l.lefts.now))
    (deepest (games_of l.arena.now l.rights.now)) + 6

abbrev pub decreases-star : goal.decreases-star
decreases-star l = 8 * max (deepest (games_of l.arena.now l.lefts.now))
    (deepest (games_of l.arena.now l.rights.now)) + 5

abbrev pub decreases-stars : goal.decreases-stars
decreases-stars l = 8 * deepest (games_of l.arena.now l.options.now) + 1

abbrev pub decreases-named_by_ends : goal.decreases-named_by_ends
decreases-named_by_ends l = 8 * max (deepest (games_of l.arena.now l.lefts.now))
    (deepest (games_of l.arena.now l.rights.now)) + 5

abbrev pub decreases-named_of_two : goal.decreases-named_of_two
decreases-named_of_two l = 8 * max (depth_of (game_of l.arena.now l.first))
    (depth_of (game_of l.arena.now l.last)) + 2

abbrev pub decreases-steep : goal.decreases-steep
decreases-steep l = 8 * depth_of (game_of l.arena.now l.last) + 1

use Rattle.std.proofs.Common.{◌+◌, ◌*◌, length}
use Rattle.cg_form.specs.Depth.{deepest, depth_of}
use Rattle.cg_nodes.specs.Games.{game_at, listed}
use Rattle.cg_nodes.proofs.Walked.{Walking}
use Rattle.cg_nodes.proofs.walk.+walk.Given as goal

abbrev pub decreases-walk_game : goal.decreases-walk_game
decreases-walk_game g l = 3 * depth_of (game_at (g.S.CellStore.state l.store.now) l.handle) + 1

abbrev pub decreases-walk_options : goal.decreases-walk_options
decreases-walk_options g l = 3 * depth_of (game_at (g.S.CellStore.state l.store.now) l.handle)

abbrev pub decreases-walk_list : goal.decreases-walk_list
decreases-walk_list g l = 3 * deepest (listed (g.S.CellStore.state l.store.now) l.list) + 2

abbrev pub invariant-walk_list-loop-top : goal.invariant-walk_list-loop-top
invariant-walk_list-loop-top g l =
    Walking (g.S.CellStore.state l.initial.store) (g.S.CellStore.state l.store) l.initial.left l.left l.initial.found
    l.found l.limit

abbrev pub decreases-walk_list-loop-top : goal.decreases-walk_list-loop-top
decreases-walk_list-loop-top g l = length (listed (g.S.CellStore.state l.store) l.left)

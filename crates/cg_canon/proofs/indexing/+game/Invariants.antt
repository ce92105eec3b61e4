use Rattle.std.proofs.Common.{◌+◌, ◌*◌, length}
use Rattle.cg_form.specs.Depth.{deepest, depth_of}
use Rattle.cg_nodes.specs.Games.{game_at, listed}
use Rattle.cg_canon.proofs.Turning.{Indexed}
use Rattle.cg_canon.proofs.indexing.+game.Given as goal

abbrev pub decreases-new_game : goal.decreases-new_game
decreases-new_game g l = 3 * depth_of (game_at (g.S.CellStore.state l.store.now) l.handle)

abbrev pub decreases-game_of_handle : goal.decreases-game_of_handle
decreases-game_of_handle g l = 3 * depth_of (game_at (g.S.CellStore.state l.store.now) l.handle) + 1

abbrev pub decreases-games_of_list : goal.decreases-games_of_list
decreases-games_of_list g l = 3 * deepest (listed (g.S.CellStore.state l.store.now) l.list) + 2

abbrev pub invariant-games_of_list-loop-top : goal.invariant-games_of_list-loop-top
invariant-games_of_list-loop-top g l = Indexed (g.S.CellStore.state l.initial.store) (g.S.CellStore.state l.store) l.initial.interner l.interner l.fn.list
    l.rest l.games.items

abbrev pub decreases-games_of_list-loop-top : goal.decreases-games_of_list-loop-top
decreases-games_of_list-loop-top g l = length (listed (g.S.CellStore.state l.store) l.rest)

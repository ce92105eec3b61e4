use Rattle.std.proofs.Common.{sym}
use Rattle.cg_canon.proofs.InternerSteps.{known_index}
use Rattle.cg_canon.proofs.Turning.{has_options, indexed_more, indexed_none}
use Rattle.cg_canon.proofs.indexing.+game.Goals as goal

pub new_game-summary_of_lists-summary-requires-clause-no_number : goal.new_game-summary_of_lists-summary-requires-clause-no_number
new_game-summary_of_lists-summary-requires-clause-no_number g t c =
    let W = g.S.CellStore.state in
    (has_options (W c.args.store.now) (W c.read.new.store) (W c.games_of_list.new.store) (W c.games_of_list-in-Game.new.store) c.args.handle
    c.in-Game.lefts c.in-Game.rights c.games_of_list.new.interner.arena c.games_of_list-in-Game.new.interner.arena
    c.in_ok-low-in-Game.low.items c.in_ok-high-in-Game.high.items c.as_slice.result.now c.as_slice-in-Game.result.now
    c.requires.game c.read.ensures.spends c.games_of_list.ensures.spends c.games_of_list-in-Game.ensures.spends
    c.in-Game.ensures.game.1 c.in-Game.ensures.game.2 c.read.ensures.canonical c.in_ok-low-in-Game.ensures.games
    c.games_of_list-in-Game.ensures.begins c.in_ok-high-in-Game.ensures.games c.as_slice.ensures c.as_slice-in-Game.ensures).no_number

pub new_game-enter_game-requires-clause-is : goal.new_game-enter_game-requires-clause-is
new_game-enter_game-requires-clause-is g t c =
    let W = g.S.CellStore.state in
    (has_options (W c.args.store.now) (W c.read.new.store) (W c.games_of_list.new.store) (W c.games_of_list-in-Game.new.store) c.args.handle
    c.in-Game.lefts c.in-Game.rights c.games_of_list.new.interner.arena c.games_of_list-in-Game.new.interner.arena
    c.in_ok-low-in-Game.low.items c.in_ok-high-in-Game.high.items c.as_slice-in-Game-2.result.now c.as_slice-in-Game-3.result.now
    c.requires.game c.read.ensures.spends c.games_of_list.ensures.spends c.games_of_list-in-Game.ensures.spends
    c.in-Game.ensures.game.1 c.in-Game.ensures.game.2 c.read.ensures.canonical c.in_ok-low-in-Game.ensures.games
    c.games_of_list-in-Game.ensures.begins c.in_ok-high-in-Game.ensures.games c.as_slice-in-Game-2.ensures c.as_slice-in-Game-3.ensures).is

pub new_game-enter_game-requires-clause-summary : goal.new_game-enter_game-requires-clause-summary
new_game-enter_game-requires-clause-summary g t c =
    let W = g.S.CellStore.state in
    rw (← (sym (has_options (W c.args.store.now) (W c.read.new.store) (W c.games_of_list.new.store) (W c.games_of_list-in-Game.new.store) c.args.handle
    c.in-Game.lefts c.in-Game.rights c.games_of_list.new.interner.arena c.games_of_list-in-Game.new.interner.arena
    c.in_ok-low-in-Game.low.items c.in_ok-high-in-Game.high.items c.as_slice.result.now c.as_slice-in-Game.result.now
    c.requires.game c.read.ensures.spends c.games_of_list.ensures.spends c.games_of_list-in-Game.ensures.spends
    c.in-Game.ensures.game.1 c.in-Game.ensures.game.2 c.read.ensures.canonical c.in_ok-low-in-Game.ensures.games
    c.games_of_list-in-Game.ensures.begins c.in_ok-high-in-Game.ensures.games c.as_slice.ensures c.as_slice-in-Game.ensures).is))
    c.summary_of_lists-summary.ensures

pub game_of_handle-returns-in-Some-clause-game : goal.game_of_handle-returns-in-Some-clause-game
game_of_handle-returns-in-Some-clause-game g t c =
    known_index (g.S.CellStore.state c.args.store.now) c.args.interner.now c.args.handle c.in-Some.game c.requires.holds c.in-Some.ensures.game

pub games_of_list-loop-top-init : goal.games_of_list-loop-top-init
games_of_list-loop-top-init g t c =
    indexed_none (g.S.CellStore.state c.args.store.now) c.args.interner.now c.args.list c.new-games.result.items c.requires.holds c.requires.list
    c.new-games.ensures.items

pub games_of_list-loop-top-preserved : goal.games_of_list-loop-top-preserved
games_of_list-loop-top-preserved g t c =
    let W = g.S.CellStore.state in
    indexed_more (W c.args.store.now) (W c.loop-top.store) (W c.head.new.store) (W c.game_of_handle.new.store) c.args.interner.now c.loop-top.interner
    c.game_of_handle.new.interner c.args.list c.loop-top.rest c.in-Some.top c.loop-top.games.items c.push.new.self.items c.in_ok-game.game
    c.loop-top.invariant c.head.ensures.spends c.in-Some.ensures.head c.game_of_handle.ensures.spends c.game_of_handle.ensures.holds
    c.game_of_handle.ensures.begins c.in_ok-game.ensures.game c.in_ok-push.ensures.ok

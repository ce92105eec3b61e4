use Rattle.std.proofs.Common.{ap, arith, length, ◌∙◌}
use Rattle.cg_nodes.proofs.Later.{nothing_spent, spends_then}
use Rattle.cg_canon.proofs.InternerSteps.{begins_none, begins_then}
use Rattle.cg_canon.proofs.HandleLists.{pushed_count}
use Rattle.cg_canon.proofs.Turning.{next_game, indexed_next, indexed_nothing}
use Rattle.cg_canon.proofs.indexing.put_games.Goals as goal

pub loop-handle-init : goal.loop-handle-init
loop-handle-init g c =
    let s = g.S.CellStore.state c.args.store.now in record {
      spends = nothing_spent s;
      holds = c.requires.holds;
      begins = begins_none c.args.interner.now.arena;
      games = indexed_nothing s c.args.interner.now.arena c.args.handles.now c.reserve.new.self.items (c.reserve.ensures.items ∙ c.requires.empty);
      count = ap length (c.reserve.ensures.items ∙ c.requires.empty);
      room = let e = ap length (c.reserve.ensures.items ∙ c.requires.empty) in let r = c.in_ok-reserve.ensures.ok in omega arith;
    }

pub game_of_handle-requires-clause-game : goal.game_of_handle-requires-clause-game
game_of_handle-requires-clause-game g c =
    let W = g.S.CellStore.state in
    (next_game (W c.args.store.now) (W c.loop-handle.store) c.args.handles.now c.loop-handle.handle-index c.handle-item.result c.requires.games
    c.loop-handle-test.true c.handle-item.is c.loop-handle.invariant.spends).0

pub loop-handle-preserved : goal.loop-handle-preserved
loop-handle-preserved g c =
    let W = g.S.CellStore.state in record {
      spends = spends_then 0 0 (W c.args.store.now) (W c.loop-handle.store) (W c.game_of_handle.new.store) c.loop-handle.invariant.spends
          c.game_of_handle.ensures.spends;
      holds = c.game_of_handle.ensures.holds;
      begins = begins_then c.args.interner.now.arena c.loop-handle.interner.arena c.game_of_handle.new.interner.arena c.loop-handle.invariant.begins
          c.game_of_handle.ensures.begins;
      games = indexed_next (W c.args.store.now) (W c.loop-handle.store) c.loop-handle.interner c.game_of_handle.new.interner c.args.handles.now
          c.loop-handle.handle-index c.handle-item.result c.loop-handle.games.items c.push_reserved.new.self.items c.in_ok-game.game c.requires.games
          c.loop-handle-test.true c.handle-item.is c.loop-handle.invariant.spends c.loop-handle.invariant.games c.game_of_handle.ensures.begins
          c.in_ok-game.ensures.game c.push_reserved.ensures.items;
      count = pushed_count c.loop-handle.games.items c.push_reserved.new.self.items c.in_ok-game.game c.loop-handle.handle-index
          c.loop-handle.invariant.count c.push_reserved.ensures.items;
      room = let e = c.push_reserved.ensures.capacity in let r = c.loop-handle.invariant.room in omega arith;
    }

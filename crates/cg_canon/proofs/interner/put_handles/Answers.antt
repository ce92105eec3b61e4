use Rattle.std.proofs.Common.{ap, arith, length, subst, ◌∙◌, ℕ}
use Rattle.cg_arena.specs.Arena.{game_of}
use Rattle.cg_arena.proofs.Slices.{index_of_item, item_is}
use Rattle.cg_nodes.specs.Games.{StandsFor}
use Rattle.cg_canon.proofs.InternerSteps.{named_stands}
use Rattle.cg_canon.proofs.HandleLists.{pushed_count, stand_next, stand_none}
use Rattle.cg_canon.proofs.interner.put_handles.Goals as goal

pub loop-game-init : goal.loop-game-init
loop-game-init g c =
    let none = c.reserve.ensures.items ∙ c.requires.empty in record {
      handled = stand_none (g.S.CellStore.state c.args.store.now) c.args.interner.now.arena c.reserve.new.self.items c.args.games.now none;
      count = ap length none;
      room = let n = ap length none in let r = c.in_ok-reserve.ensures.ok in omega arith;
    }

pub loop-game-preserved : goal.loop-game-preserved
loop-game-preserved g c =
    let s = g.S.CellStore.state c.args.store.now in
    let P : ℕ → Type 0 = λ z. StandsFor s c.handle.result (game_of c.args.interner.now.arena z) in
    let is = item_is c.args.games.now c.loop-game.game-index _ c.game-item.is c.loop-game-test.true in record {
      handled = stand_next (g.S.CellStore.state c.args.store.now) c.args.interner.now.arena c.loop-game.handles.items c.push_reserved.new.self.items
          c.args.games.now c.loop-game.game-index c.handle.result c.loop-game.invariant.handled c.loop-game-test.true
          (subst P is (named_stands s c.args.interner.now c.handle.result _ c.requires.holds c.handle.ensures))
          c.push_reserved.ensures.items;
      count = pushed_count c.loop-game.handles.items c.push_reserved.new.self.items c.handle.result c.loop-game.game-index
          c.loop-game.invariant.count c.push_reserved.ensures.items;
      room = let e = c.push_reserved.ensures.capacity in let r = c.loop-game.invariant.room in omega arith;
    }

pub handle-requires : goal.handle-requires
handle-requires g c =
    let count = c.requires.holds.count in
    let is = item_is c.args.games.now c.loop-game.game-index _ c.game-item.is c.loop-game-test.true in
    let game = index_of_item c.args.interner.now.arena c.args.games.now c.loop-game.game-index _ c.requires.games c.loop-game-test.true is in
    omega arith

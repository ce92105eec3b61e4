use Rattle.cg_arena.specs.Arena.{games_of}
use Rattle.cg_arena.proofs.Keeping.{undominated_next}
use Rattle.cg_arena.proofs.Slices.{index_of_item, item_is}
use Rattle.cg_arena.proofs.best.undominated_in_turn.Goals as goal

pub put_one-requires-clause-x : goal.put_one-requires-clause-x
put_one-requires-clause-x c =
    index_of_item c.args.arena.now c.args.items.now c.loop-x.x-index _ c.requires.items c.loop-x-test.true (item_is c.args.items.now c.loop-x.x-index _ c.x-item.is c.loop-x-test.true)

pub loop-x-preserved : goal.loop-x-preserved
loop-x-preserved c =
    let x = c.x-item.result in
    let gs = c.args.arena.now in
    record {
      right = c.put_one.ensures.right;
      indexes = c.in_ok-put_one.ensures.indexes;
      undominated = undominated_next gs c.args.left c.args.items.now (games_of gs c.loop-x.best.items.items) (games_of gs c.put_one.new.best.items.items)
          c.loop-x.x-index x
          c.loop-x.invariant.undominated c.loop-x-test.true (item_is c.args.items.now c.loop-x.x-index _ c.x-item.is c.loop-x-test.true) c.in_ok-put_one.ensures.best;
      bounds = c.in_ok-put_one.ensures.bounds;
    }

use Rattle.std.proofs.Common.{◌≡◌, arith, max}
use Rattle.cg_arena.proofs.LeaderSteps.{deepest_next}
use Rattle.cg_arena.proofs.Slices.{item_is}
use Rattle.cg_arena.proofs.summarizing.deepest_of.Goals as goal

pub loop-option-preserved : goal.loop-option-preserved
loop-option-preserved c =
    let deep : c.max-greatest.result ≡ max c.summary.result.now.depth c.loop-option.greatest = omega (arith, c.max-greatest.ensures) in
    record {
      deepest = deepest_next c.args.arena.now c.args.options.now c.loop-option.option-index c.option-item.result c.summary.result.now c.loop-option.greatest
          c.max-greatest.result c.loop-option-test.true c.loop-option.invariant.deepest
          (item_is c.args.options.now c.loop-option.option-index _ c.option-item.is c.loop-option-test.true) c.summary.ensures.summary deep;
      small = omega (arith, deep, c.summary.ensures.small, c.loop-option.invariant.small);
    }

use Rattle.std.proofs.Common.{◌-◌, sym, ◌∙◌}
use Rattle.cg_strip.proofs.LoweringSteps.{cell_passed}
use Rattle.cg_strip.proofs.weighing.does_lower.Goals as goal

pub loop-left-preserved : goal.loop-left-preserved
loop-left-preserved c =
    cell_passed c.args.weights.now c.args.rule.now c.loop-left.left (c.args.size - c.len-length.result) c.loop-left-test.true (sym c.is_lighter.ensures
    ∙ c.if-not-is_lighter.false) ∙ c.loop-left.invariant

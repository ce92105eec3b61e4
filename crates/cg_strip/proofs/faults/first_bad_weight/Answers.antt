use Rattle.std.proofs.Common.{take, sym, ◌∙◌, arith}
use Rattle.cg_strip.proofs.FaultSteps.{weighted_items, weights_end, weight_passed, found_by_count, found_by_symbol}
use Rattle.cg_strip.proofs.faults.first_bad_weight.Goals as goal
use Rattle.cg_strip.proofs.faults.first_bad_weight.Goals.{then-i-eq-MOST_WEIGHTS-via-then-i-eq-MOST_WEIGHTS}
use Rattle.cg_strip.proofs.faults.first_bad_weight.Goals.{then-i-eq-MOST_WEIGHTS-via-else-i-eq-MOST_WEIGHTS+then-has_weight}

pub returns-then-i-eq-MOST_WEIGHTS : goal.returns-then-i-eq-MOST_WEIGHTS
returns-then-i-eq-MOST_WEIGHTS c = elim c.then-i-eq-MOST_WEIGHTS.branch [
  | then-i-eq-MOST_WEIGHTS-via-then-i-eq-MOST_WEIGHTS v ↦ sym (found_by_count c.args.items.now c.loop-i.i _ c.loop-i-test.true v.if-i-eq-MOST_WEIGHTS.true)
      ∙ c.loop-i.invariant
  | then-i-eq-MOST_WEIGHTS-via-else-i-eq-MOST_WEIGHTS+then-has_weight v ↦ sym (found_by_symbol c.args.items.now c.loop-i.i _ c.loop-i-test.true
      (sym (weighted_items (take c.loop-i.i c.args.items.now) _) ∙ sym v.has_weight.ensures ∙ v.if-has_weight.true)) ∙ c.loop-i.invariant
]

pub loop-i-preserved : goal.loop-i-preserved
loop-i-preserved c = weight_passed c.args.items.now c.loop-i.i _ c.loop-i-test.true c.if-i-eq-MOST_WEIGHTS.false
    (sym (weighted_items (take c.loop-i.i c.args.items.now) _) ∙ sym c.has_weight.ensures ∙ c.if-has_weight.false) ∙ c.loop-i.invariant

pub returns : goal.returns
returns c = sym (weights_end _ c.args.items.now c.loop-i.i (omega arith)) ∙ c.loop-i.invariant

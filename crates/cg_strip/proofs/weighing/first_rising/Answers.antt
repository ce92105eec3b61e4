use Rattle.std.proofs.Common.{sym, ap, ◌∙◌, arith}
use Rattle.cg_strip.specs.Weighing.{does_lower}
use Rattle.cg_strip.proofs.LoweringSteps.{rule_found, rule_passed, rules_end}
use Rattle.cg_strip.proofs.weighing.first_rising.Goals as goal

pub returns-then-not-does_lower : goal.returns-then-not-does_lower
returns-then-not-does_lower c =
    sym (rule_found c.args.weights.now c.args.size c.loop-i.i c.args.rules.now c.index-rules-i.result c.loop-i-test.true
    (ap (does_lower c.args.weights.now c.args.size) (sym c.index-rules-i.is) ∙ sym c.does_lower.ensures ∙ c.if-not-does_lower.true)) ∙ c.loop-i.invariant

pub loop-i-preserved : goal.loop-i-preserved
loop-i-preserved c =
    rule_passed c.args.weights.now c.args.size c.loop-i.i c.args.rules.now c.index-rules-i.result c.loop-i-test.true
    (ap (does_lower c.args.weights.now c.args.size) (sym c.index-rules-i.is) ∙ sym c.does_lower.ensures ∙ c.if-not-does_lower.false) ∙ c.loop-i.invariant

pub returns : goal.returns
returns c = sym (rules_end c.args.weights.now c.args.size c.loop-i.i c.loop-i.i c.args.rules.now (omega arith)) ∙ c.loop-i.invariant

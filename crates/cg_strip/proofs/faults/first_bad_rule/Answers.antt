use Rattle.std.proofs.Common.{ap, sym, ◌∙◌, arith}
use Rattle.cg_strip.specs.RuleFaults.{weights_in}
use Rattle.cg_strip.specs.Faults.{rule_fault}
use Rattle.cg_strip.proofs.FaultSteps.{rules_end, rule_found, rule_passed}
use Rattle.cg_strip.proofs.faults.first_bad_rule.Goals as goal

pub returns-in-Some : goal.returns-in-Some
returns-in-Some c =
    sym (rule_found (weights_in c.args.weights.now) c.args.items.now c.loop-i.i c.index-items-i.result c.in-Some.place c.loop-i-test.true
    (sym c.in-Some.is ∙ c.bad_place.ensures ∙ ap (rule_fault (weights_in c.args.weights.now) c.loop-i.i) c.index-items-i.is)) ∙ c.loop-i.invariant

pub loop-i-preserved : goal.loop-i-preserved
loop-i-preserved c =
    rule_passed (weights_in c.args.weights.now) c.args.items.now c.loop-i.i c.index-items-i.result c.loop-i-test.true
    (sym c.in_default.is ∙ c.bad_place.ensures ∙ ap (rule_fault (weights_in c.args.weights.now) c.loop-i.i) c.index-items-i.is) ∙ c.loop-i.invariant

pub returns : goal.returns
returns c = sym (rules_end _ c.args.items.now c.loop-i.i (omega arith)) ∙ c.loop-i.invariant

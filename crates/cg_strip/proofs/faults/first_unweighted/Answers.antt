use Rattle.std.proofs.Common.{◌+◌, sym, ◌∙◌, arith}
use Rattle.cg_strip.proofs.FaultSteps.{weighted_items, unweighted_end, symbol_found, symbol_passed}
use Rattle.cg_strip.proofs.faults.first_unweighted.Goals as goal

pub returns-then-not-has_weight : goal.returns-then-not-has_weight
returns-then-not-has_weight c = sym (symbol_found _ c.args.place c.args.symbols.now c.loop-i.i c.loop-i-test.true (sym (weighted_items c.args.weights.now _)
    ∙ sym c.has_weight.ensures ∙ c.if-not-has_weight.true)) ∙ c.loop-i.invariant

pub loop-i-preserved : goal.loop-i-preserved
loop-i-preserved c = symbol_passed _ c.args.place c.args.symbols.now c.loop-i.i c.loop-i-test.true (sym (weighted_items c.args.weights.now _)
    ∙ sym c.has_weight.ensures ∙ c.if-not-has_weight.false) ∙ c.loop-i.invariant

pub returns : goal.returns
returns c = sym (unweighted_end _ (c.args.place + c.loop-i.i) c.args.symbols.now c.loop-i.i (omega arith)) ∙ c.loop-i.invariant

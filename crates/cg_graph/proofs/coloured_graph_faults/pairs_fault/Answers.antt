use Rattle.std.proofs.Common.{sym, ◌∙◌, arith}
use Rattle.cg_graph.proofs.PairFaults.{pair_found, pair_passed, pairs_end}
use Rattle.cg_graph.proofs.coloured_graph_faults.pairs_fault.Goals as goal

pub returns-in-Some : goal.returns-in-Some
returns-in-Some c =
    sym (pair_found c.args.vertices c.args.items.now c.loop-item.item-index _ c.in-Some.place c.loop-item-test.true
    (sym c.in-Some.is ∙ c.pair_fault.ensures)) ∙ c.loop-item.invariant

pub loop-item-preserved : goal.loop-item-preserved
loop-item-preserved c =
    pair_passed c.args.vertices c.args.items.now c.loop-item.item-index _ c.loop-item-test.true
    (sym c.in_default.is ∙ c.pair_fault.ensures) ∙ c.loop-item.invariant

pub returns : goal.returns
returns c = sym (pairs_end c.args.vertices c.args.items.now c.loop-item.item-index (omega arith)) ∙ c.loop-item.invariant

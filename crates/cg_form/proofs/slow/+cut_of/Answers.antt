use Rattle.std.proofs.Common.{rules, refl}
use Rattle.cg_dyadic.specs.Number.{InRange}
use Rattle.cg_form.proofs.CutSteps.{cut_of_gap, cut_of_number, cut_of_simplest, cut_step}
use Rattle.cg_form.proofs.FormLists.{size_of_item, size_of_lists}
use Rattle.cg_form.proofs.slow.+cut_of.Goals as goal

pub cut_of-cut_of_all-low-requires : goal.cut_of-cut_of_all-low-requires
cut_of-cut_of_all-low-requires t c =
    let s = size_of_lists c.args.form.now c.in-Node.lefts c.in-Node.rights c.in-Node.is in
    (search rules, tt)

pub cut_of-cut_of_all-high-requires : goal.cut_of-cut_of_all-high-requires
cut_of-cut_of_all-high-requires t c =
    let s = size_of_lists c.args.form.now c.in-Node.lefts c.in-Node.rights c.in-Node.is in
    (search rules, tt)

pub cut_of_all-cut_of-next-requires : goal.cut_of_all-cut_of-next-requires
cut_of_all-cut_of-next-requires t c =
    let s = size_of_item c.as_slice-option-items.result.now c.args.options.now c.loop-option.option-index c.option-item.result c.as_slice-option-items.ensures
    c.option-item.is c.loop-option-test.true in
    (search rules, tt)

pub cut_of_all-loop-option-preserved : goal.cut_of_all-loop-option-preserved
cut_of_all-loop-option-preserved t c =
    cut_step InRange c.args.left c.as_slice-option-items.result.now c.loop-option.option-index c.option-item.result _ _ _ c.loop-option-test.true
    c.option-item.is
    c.loop-option.invariant c.cut_of-next.ensures c.joined-all.ensures

pub cut_of-returns-in-Num : goal.cut_of-returns-in-Num
cut_of-returns-in-Num t c = cut_of_number InRange c.args.left c.args.form.now c.in-Num.x _ c.in-Num.is c.closed.ensures.at c.closed.ensures.closed

pub cut_of-returns-in-Some : goal.cut_of-returns-in-Some
cut_of-returns-in-Some t c = cut_of_simplest c.args.left c.args.form.now c.in-Node.lefts c.in-Node.rights c.cut_of_all-low.result c.cut_of_all-high.result
    c.in-Some.x _ c.in-Node.is
    c.cut_of_all-low.ensures c.cut_of_all-high.ensures c.in-Some.ensures.found c.closed-in-Some.ensures.at c.closed-in-Some.ensures.closed

pub cut_of-returns-in-None : goal.cut_of-returns-in-None
cut_of-returns-in-None t c = cut_of_gap c.args.left c.args.form.now c.in-Node.lefts c.in-Node.rights c.cut_of_all-low.result c.cut_of_all-high.result _
    c.in-Node.is
    c.cut_of_all-low.ensures c.cut_of_all-high.ensures (c.in-None.ensures.none refl) c.turned.ensures

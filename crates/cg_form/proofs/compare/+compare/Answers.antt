use Rattle.std.proofs.Common.{rules}
use Rattle.cg_form.specs.Forms.{game_of}
use Rattle.cg_form.proofs.CompareSteps.{is_equal, is_unequal, lefts_decide, rights_decide, shorter_returns}
use Rattle.cg_form.proofs.FormLists.{size_of_item, size_of_lists}
use Rattle.cg_form.proofs.Structure.{compared_same}
use Rattle.cg_form.proofs.compare.+compare.Goals as goal

pub compare_lists-compare_structure-order-requires : goal.compare_lists-compare_structure-order-requires
compare_lists-compare_structure-order-requires t c =
    let s = size_of_item c.as_slice-left.result.now c.args.a.now c.loop-i.i c.index-left-i.result c.as_slice-left.ensures c.index-left-i.is c.loop-i-test.true
    in
    (search rules, tt)

pub compare_structure-compare_lists-order-requires : goal.compare_structure-compare_lists-order-requires
compare_structure-compare_lists-order-requires t c =
    let s = size_of_lists c.args.a.now c.in-Node.lefts c.in-Node.rights c.in-Node.is in
    (search rules, tt)

pub compare_structure-compare_lists-requires : goal.compare_structure-compare_lists-requires
compare_structure-compare_lists-requires t c =
    let s = size_of_lists c.args.a.now c.in-Node.lefts c.in-Node.rights c.in-Node.is in
    (search rules, tt)

pub compare_structure-returns-then-ne : goal.compare_structure-returns-then-ne
compare_structure-returns-then-ne t c =
    let o = lefts_decide c.args.a.now c.args.b.now _ _ _ _ c.compare_lists-order.result c.in-Node.is c.in-Node-b-2.is
    c.compare_lists-order.ensures (is_unequal c.compare_lists-order.result c.ne.result c.ne.ensures c.if-ne.true) in
    record { order = o; same = compared_same c.compare_lists-order.result (game_of c.args.a.now) (game_of c.args.b.now) o }

pub compare_structure-returns-else-ne : goal.compare_structure-returns-else-ne
compare_structure-returns-else-ne t c =
    let o = rights_decide c.args.a.now c.args.b.now _ _ _ _ c.compare_lists-order.result c.compare_lists.result c.in-Node.is c.in-Node-b-2.is
    c.compare_lists-order.ensures (is_equal c.compare_lists-order.result c.ne.result c.ne.ensures c.if-ne.false) c.compare_lists.ensures in
    record { order = o; same = compared_same c.compare_lists.result (game_of c.args.a.now) (game_of c.args.b.now) o }

pub compare_lists-returns-then-left-right : goal.compare_lists-returns-then-left-right
compare_lists-returns-then-left-right t c = shorter_returns c.as_slice-left.result.now c.as_slice-right.result.now c.args.a.now c.args.b.now c.loop-i.i
    c.loop-i.invariant.rest c.loop-i-test.false c.loop-i.auto.i-end c.if-left-right.true

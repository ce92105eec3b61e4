use Rattle.std.proofs.Common.{subst, sym, ◌∙◌, List, ◌/◌, suc, arith}
use Rattle.cg_form.specs.Game.{Game}
use Rattle.cg_octal.specs.Found.{Adds}
use Rattle.cg_octal.specs.Heaps.{digit_options, heap, two_heaps}
use Rattle.cg_octal.proofs.Adding.{if_ok_then, singles-made}
use Rattle.cg_octal.proofs.OptionLists.{digit_options-no_two, digit_options-two, singles}
use Rattle.cg_octal.proofs.options.with_digit_options.Goals as goal

pub returns-then-leaves_two_heaps : goal.returns-then-leaves_two_heaps
returns-then-leaves_two_heaps c =
    let f = heap c.args.digits.now in
    if_ok_then (λ v. v.items) c.with_two_heaps.result (suc c.args.left) (suc c.args.left) (singles f c.args.digit c.args.left)
    (two_heaps f c.args.left (c.args.left / 2)) (digit_options f c.args.digit c.args.left) c.args.found.items
    c.in_ok-all-2.all.items (omega arith)
    (singles-made c.args.digits.now c.args.values.now c.args.digit c.args.left c.leaves_nothing.result
    c.leaves_one_heap.result c.args.found.items c.in_ok-all.all.items c.in_ok-all-2.all.items c.requires.values
    c.requires.lesser c.leaves_nothing.ensures c.leaves_one_heap.ensures c.in_ok-all.ensures c.in_ok-all-2.ensures)
    (digit_options-two f c.args.digit c.args.left (sym c.leaves_two_heaps.ensures ∙ c.if-leaves_two_heaps.true))
    c.with_two_heaps.ensures

pub returns-else-leaves_two_heaps : goal.returns-else-leaves_two_heaps
returns-else-leaves_two_heaps c =
    let f = heap c.args.digits.now in
    let P : List Game → Type 0 = λ z. Adds (suc c.args.left) z c.args.found.items c.in_ok-all-2.all.items in
    subst P (digit_options-no_two f c.args.digit c.args.left (sym c.leaves_two_heaps.ensures ∙ c.if-leaves_two_heaps.false))
    (singles-made c.args.digits.now c.args.values.now c.args.digit c.args.left c.leaves_nothing.result
    c.leaves_one_heap.result c.args.found.items c.in_ok-all.all.items c.in_ok-all-2.all.items c.requires.values
    c.requires.lesser c.leaves_nothing.ensures c.leaves_one_heap.ensures c.in_ok-all.ensures c.in_ok-all-2.ensures)

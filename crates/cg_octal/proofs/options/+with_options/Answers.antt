use Rattle.std.proofs.Common.{rules, refl, subst, ◌-◌, List, arith, suc}
use Rattle.cg_form.specs.Game.{Game}
use Rattle.cg_octal.specs.Found.{Adds}
use Rattle.cg_octal.specs.Heaps.{digit_options, heap, heap_options}
use Rattle.cg_octal.proofs.Adding.{adds_none, adds_within, if_ok_then}
use Rattle.cg_octal.proofs.OptionLists.{heap_options-step, no_tokens}
use Rattle.cg_octal.proofs.options.+with_options.Goals as goal

pub returns-then-count-eq0 : goal.returns-then-count-eq0
returns-then-count-eq0 t c =
    let P : List Game → Type 0 = λ z. Adds c.args.count z c.args.found.items c.args.found.items in
    subst P (no_tokens (heap c.args.digits.now) c.args.further.now c.args.count (search (rules, c.if-count-eq0.true)))
    (adds_none c.args.count c.args.found.items c.args.found.items refl)

pub returns-in_ok-all-in-Some : goal.returns-in_ok-all-in-Some
returns-in_ok-all-in-Some t c =
    let f = heap c.args.digits.now in
    let some = c.if-count-eq0.false in
    if_ok_then (λ v. v.items) c.with_options.result c.args.count (c.args.count - 1)
    (digit_options f c.in-Some.digit.now (c.args.count - 1)) (heap_options f c.in-Some.others.now (c.args.count - 1))
    (heap_options f c.args.further.now c.args.count) c.args.found.items c.in_ok-all-in-Some.all.items (omega arith)
    (adds_within (suc (c.args.count - 1)) c.args.count (digit_options f c.in-Some.digit.now (c.args.count - 1))
    c.args.found.items c.in_ok-all-in-Some.all.items (omega arith) c.in_ok-all-in-Some.ensures)
    (heap_options-step f c.in-Some.digit.now c.in-Some.others.now c.args.further.now c.args.count
    (search (rules, c.in-Some.ensures.cases)) (search (rules, c.if-count-eq0.false)))
    c.with_options.ensures

use Rattle.std.proofs.Common.{rules, ◌≡◌, ap}
use Rattle.std.proofs.lemmas.Result.{err_from_is_err_and}
use Rattle.std.specs.Prelude.{Result, Err}
use Rattle.cg_form.specs.declared.fault.SlowFault.{SlowFault}
use Rattle.cg_form.specs.declared.fault.SlowFault.TheVariants.{Range}
use Rattle.cg_form.specs.Cut.{AnyNumber}
use Rattle.cg_form.specs.Forms.{game_of, games_of}
use Rattle.cg_form.proofs.CutSteps.{cut_step}
use Rattle.cg_form.proofs.FormLists.{among_item, size_of_item, size_of_lists}
use Rattle.cg_form.proofs.KnownSteps.{any_outside, copies_next, decide_none, decide_number, decide_outside, decide_reduced, high_some}
use Rattle.cg_form.proofs.KnownSteps.{inside_next, known_num, low_some}
use Rattle.cg_form.proofs.canon.+learn.Goals as goal

same_err : {A : Type 0} (x y : SlowFault) (r : Result A SlowFault) → r ≡ Err x → x ≡ y → r ≡ Err Range → y ≡ Range
same_err x y r e f g = cc

pub learn-learn_all-requires : goal.learn-learn_all-requires
learn-learn_all-requires t c =
    let s = size_of_lists c.args.form.now c.in-Node.lefts c.in-Node.rights c.in-Node.is in
    (search rules, tt)

pub learn-learn_all-requires-in-Node : goal.learn-learn_all-requires-in-Node
learn-learn_all-requires-in-Node t c =
    let s = size_of_lists c.args.form.now c.in-Node.lefts c.in-Node.rights c.in-Node.is in
    (search rules, tt)

pub learn-returns-in-Num-clause-known : goal.learn-returns-in-Num-clause-known
learn-returns-in-Num-clause-known t c = known_num c.args.left c.args.form.now c.in-Num.x _ c.in-Num.is c.closed.ensures.at c.closed.ensures.closed
    c.closed.ensures.in_range

pub learn-unwrap-below-requires : goal.learn-unwrap-below-requires
learn-unwrap-below-requires t c = low_some _ _ c.in-Nothing.ensures

pub learn-unwrap-above-requires : goal.learn-unwrap-above-requires
learn-unwrap-above-requires t c = high_some _ _ c.in-Nothing.ensures

pub learn-reduced-requires-clause-none : goal.learn-reduced-requires-clause-none
learn-reduced-requires-clause-none t c = decide_none c.in-Node.lefts c.in-Node.rights (games_of c.in_ok-low-in-Node.low.forms.items)
    (games_of c.in_ok-high-in-Node.high.forms.items) c.in_ok-low-in-Node.low.cut c.in_ok-high-in-Node.high.cut
    c.in_ok-low-in-Node.ensures.copies c.in_ok-high-in-Node.ensures.copies c.in_ok-low-in-Node.ensures.cut c.in_ok-high-in-Node.ensures.cut
    c.in-Nothing.ensures

pub learn-returns-in-Number-clause-known : goal.learn-returns-in-Number-clause-known
learn-returns-in-Number-clause-known t c = decide_number c.args.left c.args.form.now c.in-Node.lefts c.in-Node.rights c.in_ok-low-in-Node.low.cut
    c.in_ok-high-in-Node.high.cut c.in-Number.x _ c.in-Node.is c.in_ok-low-in-Node.ensures.cut c.in_ok-high-in-Node.ensures.cut
    c.in_ok-low-in-Node.ensures.inside c.in_ok-high-in-Node.ensures.inside
    c.in-Number.ensures.0 c.closed-in-Number.ensures.in_range c.closed-in-Number.ensures.at c.closed-in-Number.ensures.closed

pub learn-returns-in-Outside-clause-range : goal.learn-returns-in-Outside-clause-range
learn-returns-in-Outside-clause-range t c = λ u. decide_outside c.args.form.now c.in-Node.lefts c.in-Node.rights c.in_ok-low-in-Node.low.cut
    c.in_ok-high-in-Node.high.cut c.in-Outside.ensures.0 c.in-Node.is c.in_ok-low-in-Node.ensures.cut c.in_ok-high-in-Node.ensures.cut
    c.in-Outside.ensures.2 c.in-Outside.ensures.3

pub learn-returns-in_ok-form-in-Nothing-clause-known : goal.learn-returns-in_ok-form-in-Nothing-clause-known
learn-returns-in_ok-form-in-Nothing-clause-known t c = decide_reduced c.args.left c.args.form.now c.in-Node.lefts c.in-Node.rights
    (games_of c.in_ok-low-in-Node.low.forms.items) (games_of c.in_ok-high-in-Node.high.forms.items) (game_of c.in_ok-form-in-Nothing.form)
    c.in_ok-low-in-Node.low.cut c.in_ok-high-in-Node.high.cut c.unwrap-below.result c.unwrap-above.result c.turned-cut.result
    c.in-Node.is c.in_ok-low-in-Node.ensures.copies c.in_ok-high-in-Node.ensures.copies c.in_ok-low-in-Node.ensures.cut
    c.in_ok-high-in-Node.ensures.cut c.in_ok-low-in-Node.ensures.inside c.in_ok-high-in-Node.ensures.inside c.in-Nothing.ensures
    c.unwrap-below.ensures c.unwrap-above.ensures c.in_ok-form-in-Nothing.ensures c.turned-cut.ensures

pub learn_all-learn-requires : goal.learn_all-learn-requires
learn_all-learn-requires t c =
    let s = size_of_item c.as_slice-option-items.result.now c.args.options.now c.loop-option.option-index c.option-item.result c.as_slice-option-items.ensures
    c.option-item.is c.loop-option-test.true in
    (search rules, tt)

pub learn_all-returns-in_err-form-clause-range : goal.learn_all-returns-in_err-form-clause-range
learn_all-returns-in_err-form-clause-range t c = let p = err_from_is_err_and c.from_residual.result c.from_residual.ensures.1 in
    λ e. any_outside c.args.options.now (game_of c.option-item.result)
    (among_item c.as_slice-option-items.result.now c.args.options.now c.loop-option.option-index c.option-item.result c.loop-option-test.true c.option-item.is
    c.as_slice-option-items.ensures)
    (c.in_err-form.ensures.range (ap Err (same_err p.0 c.in_err-form.field-0.0 c.from_residual.result p.1 p.2 e)))

pub learn_all-loop-option-preserved : goal.learn_all-loop-option-preserved
learn_all-loop-option-preserved t c = record {
  copies = copies_next c.as_slice-option-items.result.now c.loop-option.forms.items c.push.new.self.items c.loop-option.option-index c.option-item.result
      c.in_ok-form.field-0.form
      c.loop-option-test.true c.option-item.is c.loop-option.invariant.copies c.in_ok-form.ensures.known.form c.in_ok-push.ensures.items;
  cut = cut_step AnyNumber c.args.left c.as_slice-option-items.result.now c.loop-option.option-index c.option-item.result c.loop-option.cut _ _
      c.loop-option-test.true c.option-item.is c.loop-option.invariant.cut c.in_ok-form.ensures.known.cut c.joined-both.ensures;
  inside = inside_next c.as_slice-option-items.result.now c.loop-option.option-index c.option-item.result
      c.loop-option-test.true c.option-item.is c.loop-option.invariant.inside c.in_ok-form.ensures.known.inside;
}

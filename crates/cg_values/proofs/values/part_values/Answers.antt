use Rattle.std.proofs.Common.{rules, ◌<◌, length, ap, ◌∙◌, refl, Err}
use Rattle.std.proofs.lemmas.Result.{err_from_is_err_and}
use Rattle.cg_canon.proofs.Keeping.{keeps_then}
use Rattle.cg_canon.proofs.MadeSteps.{made_memory}
use Rattle.cg_canon.specs.Works.{work_state}
use Rattle.cg_values.proofs.Fronts.{if_err}
use Rattle.cg_values.proofs.HandleSteps.{hold-as}
use Rattle.cg_values.proofs.ValueSteps.{next-within, part-has, part-held, part-next, parts_done, parts_fronts, parts_more, parts_stopped, parts_told}
use Rattle.cg_values.proofs.values.part_values.Goals as goal

pub index-next-requires : goal.index-next-requires
index-next-requires g c =
    let within : c.loop-place.place < length c.args.graph.now.next.items =
    next-within (work_state g.S.CellStore.state c.args.work.now) (g.R.Rules.game c.args.rules.now) c.spare-spare.result _ _
    c.as_slice-board-items.ensures _ _ _ c.requires.next c.loop-place.place c.loop-place-test.true in
    search rules

pub counts_of-requires : goal.counts_of-requires
counts_of-requires g c =
    let next = part-next _ _ _ _ _ c.as_slice-board-items.ensures _ _ _ c.requires.next _ _ c.loop-place-test.true c.board-item.is
    _ _ c.loop-place.invariant _ c.index-next.ensures in
    next.counted.inside

pub places_of-requires : goal.places_of-requires
places_of-requires g c =
    let next = part-next _ _ _ _ _ c.as_slice-board-items.ensures _ _ _ c.requires.next _ _ c.loop-place-test.true c.board-item.is
    _ _ c.loop-place.invariant _ c.index-next.ensures in
    next.inside

pub part_value-requires-clause-has : goal.part_value-requires-clause-has
part_value-requires-clause-has g c =
    part-has _ _ _ _ _ c.as_slice-board-items.ensures _ _ _ c.requires.next _ _ c.loop-place-test.true c.board-item.is _ _
    c.loop-place.invariant c.requires.has

pub part_value-requires-clause-lefts : goal.part_value-requires-clause-lefts
part_value-requires-clause-lefts g c =
    let next = part-next _ _ _ _ _ c.as_slice-board-items.ensures _ _ _ c.requires.next _ _ c.loop-place-test.true c.board-item.is _ _
    c.loop-place.invariant _ c.index-next.ensures in
    next.counted.lefts

pub part_value-requires-clause-counts : goal.part_value-requires-clause-counts
part_value-requires-clause-counts g c =
    let next = part-next _ _ _ _ _ c.as_slice-board-items.ensures _ _ _ c.requires.next _ _ c.loop-place-test.true c.board-item.is _ _
    c.loop-place.invariant _ c.index-next.ensures in
    c.counts_of.ensures ∙ next.counted.counts

pub part_value-requires-clause-values : goal.part_value-requires-clause-values
part_value-requires-clause-values g c =
    let made = parts_told _ _ _ _ _ c.as_slice-board-items.ensures _ _ _ c.requires.next _ _ _ _ c.loop-place.invariant
    c.prefetch_boards.ensures in
    hold-as _ _ _ _ _ _ _ c.deref.ensures.value c.places_of.ensures
    (part-held _ _ _ _ _ c.as_slice-board-items.ensures _ _ _ c.requires.next _ _ c.loop-place-test.true c.board-item.is _ _
    made _ c.index-next.ensures)

pub returns-in_err-value-clause-made : goal.returns-in_err-value-clause-made
returns-in_err-value-clause-made g c =
    let made = parts_told _ _ _ _ _ c.as_slice-board-items.ensures _ _ _ c.requires.next _ _ _ _ c.loop-place.invariant
    c.prefetch_boards.ensures in
    let p = err_from_is_err_and c.from_residual-in_err-value.result c.from_residual-in_err-value.ensures.1 in
    parts_stopped _ _ _ _ _ c.as_slice-board-items.ensures _ _ _ c.requires.next _ _ c.loop-place-test.true c.board-item.is _ _
    made _ _ c.part_value.ensures.made _ _ c.in_err-value.was (p.1 ∙ ap Err p.2)

pub returns-in_err-value-clause-fronts : goal.returns-in_err-value-clause-fronts
returns-in_err-value-clause-fronts g c =
    let made = parts_told _ _ _ _ _ c.as_slice-board-items.ensures _ _ _ c.requires.next _ _ _ _ c.loop-place.invariant
    c.prefetch_boards.ensures in
    let p = err_from_is_err_and c.from_residual-in_err-value.result c.from_residual-in_err-value.ensures.1 in
    if_err c.from_residual-in_err-value.result _ _ (p.1 ∙ ap Err p.2)
    (parts_fronts _ _ _ _ _ c.as_slice-board-items.ensures _ _ _ c.requires.next _ _ c.loop-place-test.true c.board-item.is _ _
    made _ _ c.part_value.ensures.made _ c.in_err-value.was)

pub returns-in_err-push-clause-made : goal.returns-in_err-push-clause-made
returns-in_err-push-clause-made g c =
    let made = parts_told _ _ _ _ _ c.as_slice-board-items.ensures _ _ _ c.requires.next _ _ _ _ c.loop-place.invariant
    c.prefetch_boards.ensures in
    let p = err_from_is_err_and c.from_residual-in_err-push.result c.from_residual-in_err-push.ensures.1 in
    made_memory _ _ _ c.from_residual-in_err-push.result (p.1 ∙ ap Err p.2)
    (keeps_then _ _ _ made.keeps c.part_value.ensures.made.keeps)

pub returns-in_err-push-clause-fronts : goal.returns-in_err-push-clause-fronts
returns-in_err-push-clause-fronts g c =
    let p = err_from_is_err_and c.from_residual-in_err-push.result c.from_residual-in_err-push.ensures.1 in
    if_err c.from_residual-in_err-push.result _ _ (p.1 ∙ ap Err p.2) (λ other. absurd (other refl))

pub loop-place-preserved : goal.loop-place-preserved
loop-place-preserved g c =
    let made = parts_told _ _ _ _ _ c.as_slice-board-items.ensures _ _ _ c.requires.next _ _ _ _ c.loop-place.invariant
    c.prefetch_boards.ensures in
    parts_more _ _ _ _ _ c.as_slice-board-items.ensures _ _ _ c.requires.next _ _ c.loop-place-test.true c.board-item.is _ _
    made _ _ c.part_value.ensures.made _ _ _ c.in_ok-value.was c.in_ok-value.ensures.game
    c.part_value.ensures.spare c.in_ok-push.ensures.items c.part_value.ensures.noted

pub returns-clause-values : goal.returns-clause-values
returns-clause-values g c =
    let done = parts_done _ _ _ _ _ c.as_slice-board-items.ensures _ _ _ c.requires.next _ _ _ c.loop-place-test.false
    c.loop-place.invariant in
    done.values

pub returns-clause-noted : goal.returns-clause-noted
returns-clause-noted g c =
    let done = parts_done _ _ _ _ _ c.as_slice-board-items.ensures _ _ _ c.requires.next _ _ _ c.loop-place-test.false
    c.loop-place.invariant in
    done.noted

pub returns-clause-made : goal.returns-clause-made
returns-clause-made g c =
    let done = parts_done _ _ _ _ _ c.as_slice-board-items.ensures _ _ _ c.requires.next _ _ _ c.loop-place-test.false
    c.loop-place.invariant in
    record { charged = done.passed; refused = tt; keeps = done.keeps }

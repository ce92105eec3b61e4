use Rattle.std.proofs.Common.{rules, ap, length, ◌<◌, ◌∙◌, Err}
use Rattle.std.specs.Prelude.{slice_index}
use Rattle.std.proofs.lemmas.Result.{err_from_is_err_and}
use Rattle.cg_values.proofs.AddSteps.{adding_done, adding_more, adding_none, adding_stopped, other-game}
use Rattle.cg_values.proofs.HandleSteps.{handle-read, handle-within, handles-end, place-within}
use Rattle.cg_values.proofs.joining.add_all.Goals as goal

pub loop-place-init : goal.loop-place-init
loop-place-init g c = adding_none _ _ _ c.requires.first

pub bounds-handles-place : goal.bounds-handles-place
bounds-handles-place g c = place-within _ _ _ c.requires.within c.loop-place-test.true

pub offset_bounds-handles-place : goal.offset_bounds-handles-place
offset_bounds-handles-place g c =
    let below : slice_index c.args.others.now c.loop-place.place-index < length c.args.handles.now =
    place-within _ _ _ c.requires.within c.loop-place-test.true in
    search rules

pub add-requires-clause-a : goal.add-requires-clause-a
add-requires-clause-a g c = c.loop-place.invariant.game

pub add-requires-clause-b : goal.add-requires-clause-b
add-requires-clause-b g c =
    other-game _ _ _ _ _ _ _ (handle-within _ _ _ c.loop-place-test.true)
    (handle-read _ _ _ _ c.requires.within c.loop-place-test.true c.index-handles-place.is) c.loop-place.invariant c.requires.games

pub returns-in_err-sum : goal.returns-in_err-sum
returns-in_err-sum g c = λ k ks st all.
    let p = err_from_is_err_and c.from_residual.result c.from_residual.ensures.1 in
    adding_stopped _ _ _ _ _ _ _ (handle-within _ _ _ c.loop-place-test.true)
    (handle-read _ _ _ _ c.requires.within c.loop-place-test.true c.index-handles-place.is) c.loop-place.invariant
    _ _ c.add.ensures k ks st all _ _ c.in_err-sum.was (p.1 ∙ ap Err p.2)

pub loop-place-preserved : goal.loop-place-preserved
loop-place-preserved g c =
    adding_more _ _ _ _ _ _ _ (handle-within _ _ _ c.loop-place-test.true)
    (handle-read _ _ _ _ c.requires.within c.loop-place-test.true c.index-handles-place.is) c.loop-place.invariant
    _ _ c.add.ensures _ c.in_ok-sum.was

pub returns : goal.returns
returns g c = λ k ks st all.
    adding_done _ _ _ _ _ _ (handles-end _ _ _ c.loop-place-test.false) c.loop-place.invariant k ks st all

-- A sum for each copy but the first.
use Rattle.std.proofs.Common.{ap, arith, ◌≤◌, ◌∙◌, Err}
use Rattle.std.proofs.lemmas.Result.{err_from_is_err_and}
use Rattle.cg_canon.specs.Works.{work_state}
use Rattle.cg_sum.proofs.MultipleSteps.{same_count, step_game_a, step_game_total, steps_given, steps_more, steps_none, steps_stopped, zero_given}
use Rattle.cg_sum.proofs.multiples.multiple.Goals as goal

pub returns-then-count-eq0 : goal.returns-then-count-eq0
returns-then-count-eq0 g c =
    let W = work_state g.S.CellStore.state in
    let made = c.number_item.ensures in
    zero_given (W c.args.work.now) (W c.number_item.new.work) _ _ _ _ c.zero.ensures c.if-count-eq0.true
    (record { game = made.game; made = made.made; more = made.more })

pub loop-step-init : goal.loop-step-init
loop-step-init g c = steps_none _ _ c.requires c.known_game.ensures.canonical

pub found_sum-requires-clause-a : goal.found_sum-requires-clause-a
found_sum-requires-clause-a g c = step_game_total _ _ c.requires _ _ _ c.loop-step.auto._step c.loop-step.invariant

pub found_sum-requires-clause-b : goal.found_sum-requires-clause-b
found_sum-requires-clause-b g c = step_game_a _ _ c.requires _ _ _ c.loop-step.auto._step c.loop-step.invariant

pub returns-in_err-total : goal.returns-in_err-total
returns-in_err-total g c =
    let p = err_from_is_err_and c.from_residual.result c.from_residual.ensures.1 in
    steps_stopped _ _ c.requires _ _ _ c.loop-step.auto._step c.loop-step.invariant _ _ c.loop-step-test.true
    c.found_sum.result _ _ c.in_err-total.was (p.1 ∙ ap Err p.2) c.found_sum.ensures.made c.found_sum.ensures.more

pub loop-step-preserved : goal.loop-step-preserved
loop-step-preserved g c =
    steps_more _ _ c.requires _ _ _ c.loop-step.auto._step c.loop-step.invariant _ _ _ c.in_ok-total.was c.found_sum.ensures

pub returns : goal.returns
returns g c =
    let positive : 1 ≤ c.args.count = (let n = c.if-count-eq0.false in omega arith) in
    steps_given _ _ _ _ _ _ (same_count _ _ positive c.loop-step-test.false c.loop-step.auto._step-end) c.loop-step.invariant

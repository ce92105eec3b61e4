use Rattle.std.proofs.Common.{◌∙◌, add-one, arith}
use Rattle.cg_names.proofs.NimberSteps.{nimber_made, nimber_made-canonical, nimber_options, nimbers_all}
use Rattle.cg_names.proofs.NimberSteps.{nimbers_first_refused, nimbers_next, nimbers_refused, nimbers_start}
use Rattle.cg_names.proofs.nimbers.make_nimbers.Goals as goal

pub returns-in_err-last : goal.returns-in_err-last
returns-in_err-last g c = nimbers_first_refused _ c.in_err-last.ensures c.from_residual.ensures.1

pub loop-level-init : goal.loop-level-init
loop-level-init g c = nimbers_start _ _ _ _ c.new-lesser.ensures.items c.in_ok-last.ensures

pub make-requires-clause-lefts : goal.make-requires-clause-lefts
make-requires-clause-lefts g c =
    (nimber_options _ _ _ _ _ _ c.loop-level.invariant (c.deref.ensures.value ∙ c.in_ok-push.ensures.items)).0

pub make-requires-clause-rights : goal.make-requires-clause-rights
make-requires-clause-rights g c =
    (nimber_options _ _ _ _ _ _ c.loop-level.invariant
    (c.deref-in-loop-level.ensures.value ∙ c.in_ok-push.ensures.items)).0

pub make-requires-clause-canonical : goal.make-requires-clause-canonical
make-requires-clause-canonical g c =
    nimber_made-canonical _ _ _ _ _ _ _ c.loop-level.invariant (c.deref.ensures.value ∙ c.in_ok-push.ensures.items)
    (c.deref-in-loop-level.ensures.value ∙ c.in_ok-push.ensures.items)

pub returns-in_err-last-2 : goal.returns-in_err-last-2
returns-in_err-last-2 g c =
    let e = nimber_made _ _ _ _ _ _ _ c.loop-level.invariant (c.deref.ensures.value ∙ c.in_ok-push.ensures.items)
    (c.deref-in-loop-level.ensures.value ∙ c.in_ok-push.ensures.items) in
    nimbers_refused c.loop-level.invariant (c.in_err-last-2.ensures _ e) c.from_residual-in_err-last-2.ensures.1 c.loop-level-test.true

pub loop-level-preserved : goal.loop-level-preserved
loop-level-preserved g c =
    let e = nimber_made _ _ _ _ _ _ _ c.loop-level.invariant (c.deref.ensures.value ∙ c.in_ok-push.ensures.items)
    (c.deref-in-loop-level.ensures.value ∙ c.in_ok-push.ensures.items) in
    nimbers_next c.loop-level.invariant c.in_ok-push.ensures.items (c.in_ok-last-2.ensures _ e) (add-one c.loop-level.level)

pub returns : goal.returns
returns g c =
    nimbers_all _ _ _ _ _ _ c.loop-level.invariant
    (omega (arith, c.loop-level-test.false, c.loop-level.auto.level-end))

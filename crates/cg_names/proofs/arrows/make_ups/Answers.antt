use Rattle.std.proofs.Common.{refl, add-one, arith}
use Rattle.cg_canon.specs.Works.{work_state}
use Rattle.cg_names.proofs.UpSteps.{last_before, ups_done, ups_first_refused, ups_next, ups_refused, ups_star_refused, ups_start}
use Rattle.cg_names.proofs.arrows.make_ups.Goals as goal

pub returns-in_err-zero : goal.returns-in_err-zero
returns-in_err-zero g c = ups_first_refused _ _ _ _ c.in_err-zero.ensures c.from_residual.ensures.1

pub returns-in_err-last : goal.returns-in_err-last
returns-in_err-last g c =
    ups_star_refused _ _ _ _ _ _ c.in_ok-zero.ensures c.in_err-last.ensures c.from_residual-in_err-last.ensures.1

pub loop-level-init : goal.loop-level-init
loop-level-init g c = ups_start _ _ _ _ _ _ c.in_ok-zero.ensures _ _ c.in_ok-last.ensures refl

pub make_star-requires : goal.make_star-requires
make_star-requires g c = c.in_ok-zero.ensures.game

pub make_next-requires-clause-zero : goal.make_next-requires-clause-zero
make_next-requires-clause-zero g c = c.loop-level.invariant.zero_stands

pub make_next-requires-clause-last : goal.make_next-requires-clause-last
make_next-requires-clause-last g c =
    last_before (work_state g.S.CellStore.state c.loop-level.work) _ _ c.loop-level.last _ c.loop-level.invariant.given.game

pub returns-in_err-last-2 : goal.returns-in_err-last-2
returns-in_err-last-2 g c =
    ups_refused _ _ _ _ _ _ _ _ _ c.loop-level.invariant c.loop-level-test.true c.in_err-last-2.ensures c.from_residual-in_err-last-2.ensures.1

pub loop-level-preserved : goal.loop-level-preserved
loop-level-preserved g c =
    ups_next _ _ _ _ _ _ _ _ _ c.loop-level.invariant c.loop-level-test.true _ _ c.in_ok-last-2.ensures (add-one c.loop-level.level)

pub returns : goal.returns
returns g c =
    ups_done _ _ _ _ _ _ _ _ c.loop-level.invariant
    (omega (arith, c.loop-level-test.false, c.loop-level.auto.level-end)) c.requires

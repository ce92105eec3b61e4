use Rattle.cg_canon.specs.Works.{work_state}
use Rattle.cg_sum.proofs.MultipleSteps.{StepsMade}
use Rattle.cg_sum.proofs.multiples.multiple.Given as goal

abbrev pub invariant-loop-step : goal.invariant-loop-step
invariant-loop-step g l =
    StepsMade (work_state g.S.CellStore.state l.fn.work) (work_state g.S.CellStore.state l.work) l.a l.total l._step

use Rattle.cg_canon.specs.Works.{work_state}
use Rattle.cg_values.specs.Parts.{handles_at}
use Rattle.cg_values.proofs.AddSteps.{Adding}
use Rattle.cg_values.proofs.joining.add_all.Given as goal

abbrev pub invariant-loop-place : goal.invariant-loop-place
invariant-loop-place g l = Adding (work_state g.S.CellStore.state l.initial.work) (work_state g.S.CellStore.state l.work)
    l.fn.first (handles_at l.handles l.others) l.place-index l.sum

use Rattle.cg_canon.specs.Works.{work_state}
use Rattle.cg_names.proofs.NimberSteps.{NimbersMade}
use Rattle.cg_names.proofs.nimbers.make_nimbers.Given as goal

abbrev pub invariant-loop-level : goal.invariant-loop-level
invariant-loop-level g l =
    NimbersMade (work_state g.S.CellStore.state l.fn.work) (work_state g.S.CellStore.state l.work) l.lesser.items l.last
    l.level

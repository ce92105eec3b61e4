use Rattle.cg_canon.specs.Works.{work_state}
use Rattle.cg_names.proofs.UpSteps.{UpsMade}
use Rattle.cg_names.proofs.arrows.make_ups.Given as goal

abbrev pub invariant-loop-level : goal.invariant-loop-level
invariant-loop-level g l =
    UpsMade (work_state g.S.CellStore.state l.fn.work) (work_state g.S.CellStore.state l.work) l.down l.count l.zero l.last
    l.starred l.level

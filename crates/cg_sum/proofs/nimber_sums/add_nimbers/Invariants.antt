use Rattle.cg_canon.specs.Works.{work_state}
use Rattle.cg_sum.proofs.NimberRows.{RowsSoFar}
use Rattle.cg_sum.proofs.nimber_sums.add_nimbers.Given as goal

abbrev pub invariant-loop-row : goal.invariant-loop-row
invariant-loop-row g l =
    RowsSoFar (work_state g.S.CellStore.state l.initial.work) (work_state g.S.CellStore.state l.work) l.nimbers l.fn.rows
    l.fn.columns l.row

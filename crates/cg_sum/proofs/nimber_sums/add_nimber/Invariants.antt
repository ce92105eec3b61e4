use Rattle.cg_canon.specs.Works.{work_state}
use Rattle.cg_sum.proofs.NimberRows.{RowSoFar}
use Rattle.cg_sum.proofs.nimber_sums.add_nimber.Given as goal

abbrev pub invariant-loop-column : goal.invariant-loop-column
invariant-loop-column g l =
    RowSoFar (work_state g.S.CellStore.state l.initial.work) (work_state g.S.CellStore.state l.work) l.nimbers l.fn.row
    l.fn.columns l.column

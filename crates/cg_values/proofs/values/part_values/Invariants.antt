use Rattle.std.proofs.Common.{take}
use Rattle.cg_canon.specs.Works.{work_state}
use Rattle.cg_values.proofs.ValueSteps.{PartsMade}
use Rattle.cg_values.proofs.values.part_values.Given as goal

abbrev pub invariant-loop-place : goal.invariant-loop-place
invariant-loop-place g l = PartsMade (work_state g.S.CellStore.state l.initial.work) (work_state g.S.CellStore.state l.work)
    (g.R.Rules.game l.rules) (take l.place l.board-items) l.handles.items l.spare

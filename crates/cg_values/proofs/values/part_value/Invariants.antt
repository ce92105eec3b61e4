use Rattle.std.proofs.Common.{◌≡◌, ◌≤◌, length}
use Rattle.cg_canon.specs.Works.{work_state}
use Rattle.cg_values.proofs.JoinSteps.{Joining}
use Rattle.cg_values.proofs.values.part_value.Given as goal

abbrev pub invariant-loop-count : goal.invariant-loop-count
invariant-loop-count g l = record {
  joining : Joining (work_state g.S.CellStore.state l.initial.work) (work_state g.S.CellStore.state l.work)
      (g.R.Rules.game l.rules) l.part.board.now l.part.handles.now l.count-index l.places l.options.items;
  count : length l.options.items ≡ l.count-index;
  room : length l.part.counts.now ≤ l.options.capacity;
}

use Rattle.std.proofs.Common.{◌≡◌, ◌+◌, ◌++◌, length, take}
use Rattle.cg_sum.specs.Progress.{indexes}
use Rattle.cg_sum.proofs.sides.gather.Given as goal

abbrev pub invariant-loop-place : goal.invariant-loop-place
invariant-loop-place l = record {
  items : l.all.items ≡ l.initial.all.items ++ indexes l.table l.step l.first (take l.place-index l.places);
  count : length l.all.items ≡ length l.initial.all.items + l.place-index;
  capacity : l.all.capacity ≡ l.initial.all.capacity;
}

use Rattle.std.proofs.Common.{take, Ok}
use Rattle.cg_canon.specs.Works.{work_state}
use Rattle.cg_sum.specs.Lists.{minus_items}
use Rattle.cg_sum.specs.Progress.{FormsMade, negative_at_place}
use Rattle.cg_sum.proofs.negation.add_negatives.Given as goal

abbrev pub ghost-negative_item : goal.ghost-negative_item
ghost-negative_item g a = g.games

abbrev pub invariant-loop-place : goal.invariant-loop-place
invariant-loop-place g l =
    FormsMade (work_state g.S.CellStore.state l.fn.work) (work_state g.S.CellStore.state l.work) l.fn.work.arena l.work.arena
    (work_state g.S.CellStore.state l.fn.work).spare (minus_items (take l.place g.games)) (negative_at_place g.games) l.place
    l.table.items (Ok (tt {0}))

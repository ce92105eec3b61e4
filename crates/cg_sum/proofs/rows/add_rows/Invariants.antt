use Rattle.std.proofs.Common.{◌*◌, length, take, Ok}
use Rattle.cg_canon.specs.SumItems.{pair_items}
use Rattle.cg_canon.specs.Works.{work_state}
use Rattle.cg_sum.specs.Progress.{FormsMade, sum_at_place}
use Rattle.cg_sum.proofs.rows.add_rows.Given as goal

abbrev pub ghost-add_row : goal.ghost-add_row
ghost-add_row g a = g.games

abbrev pub invariant-loop-row : goal.invariant-loop-row
invariant-loop-row g l =
    FormsMade (work_state g.S.CellStore.state l.fn.work) (work_state g.S.CellStore.state l.work) l.fn.work.arena l.work.arena
    l.terms.start (pair_items (take l.row g.games.0) g.games.1) (sum_at_place g.games) (l.row * length g.games.1) l.table.items
    (Ok (tt {0}))

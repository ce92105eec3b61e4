use Rattle.std.proofs.Common.{◌+◌, ◌*◌, length, take, Ok}
use Rattle.cg_arena.specs.Arena.{game_of}
use Rattle.cg_canon.specs.SumItems.{row_items}
use Rattle.cg_canon.specs.Works.{work_state}
use Rattle.cg_sum.specs.Progress.{FormsMade, sum_at_place}
use Rattle.cg_sum.proofs.rows.add_row.Given as goal

abbrev pub ghost-sum_item : goal.ghost-sum_item
ghost-sum_item g a = g.games

abbrev pub invariant-loop-column : goal.invariant-loop-column
invariant-loop-column g l =
    FormsMade (work_state g.S.CellStore.state l.fn.work) (work_state g.S.CellStore.state l.work) l.fn.work.arena l.work.arena
    l.terms.start (row_items (take l.column g.games.1) (game_of g.games.0 l.row)) (sum_at_place g.games)
    (l.row * length g.games.1 + l.column) l.table.items (Ok (tt {0}))

use Rattle.std.proofs.Common.{arith}
use Rattle.cg_moves.proofs.Places.{in_read}
use Rattle.cg_pieces.proofs.Taking.{alike-first}
use Rattle.cg_pieces.proofs.cutting.pieces_of_all_into.Goals as goal

pub append_pieces-requires-clause-symbols : goal.append_pieces-requires-clause-symbols
append_pieces-requires-clause-symbols g c =
    c.requires.symbols c.board-item.result (in_read c.args.boards.now c.loop-board.board-index c.board-item.result
    c.loop-board-test.true c.board-item.is)

pub append_pieces-requires-clause-first : goal.append_pieces-requires-clause-first
append_pieces-requires-clause-first g c =
    let all = c.args.boards.now in
    let below = c.loop-board-test.true in
    let first = in_read all 0 c.in-Some.first.now (omega (arith, below)) c.in-Some.ensures.item.1 in
    alike-first c.in-Some.first.now c.board-item.result c.first_column-first_column.result
    (c.requires.alike c.in-Some.first.now c.board-item.result first
    (in_read all c.loop-board.board-index c.board-item.result below c.board-item.is))
    c.first_column-first_column.ensures.grid c.size-size.ensures.grid c.first_column-first_column.ensures.column

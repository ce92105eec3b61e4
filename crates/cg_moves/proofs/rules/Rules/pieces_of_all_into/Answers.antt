use Rattle.cg_moves.proofs.Places.{in_read}
use Rattle.cg_moves.proofs.rules.Rules.pieces_of_all_into.Goals as goal

pub pieces_into-requires : goal.pieces_into-requires
pieces_into-requires g c =
    c.requires.has c.board-item.result (in_read c.args.boards.now c.loop-board.board-index c.board-item.result
    c.loop-board-test.true c.board-item.is)

use Rattle.std.proofs.Common.{length, ap, arith}
use Rattle.cg_moves.proofs.PlaceLemmas.{board-read}
use Rattle.cg_moves.proofs.found.Found.board.Goals as goal

pub returns : goal.returns
returns c =
    let same = ap length c.self.view_is in
    rw (← c.self.view_is) (board-read c.self.inside.boards.items c.args.number c.index.result.now (omega arith) c.index.ensures)

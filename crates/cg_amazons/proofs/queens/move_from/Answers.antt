use Rattle.std.proofs.Common.{arith}
use Rattle.cg_amazons.specs.MoveParts.{IsQueenMove}
use Rattle.cg_amazons.proofs.Taken.{takes_if}
use Rattle.cg_amazons.proofs.queens.move_from.Goals as goal

pub returns : goal.returns
returns c =
    takes_if c.args.board.now c.args.boards.now.items c.move_queen.new.boards.items c.args.words.now.queens
    (IsQueenMove c.args.words.now.shape.columns c.args.words.now.queen c.args.board.now.cells) c.args.from
    (let n = c.if-bit-eq0.false in let one = c.bit.ensures.one in let e = c.bit.ensures.value in omega arith)
    c.in_ok-move_queen.ensures

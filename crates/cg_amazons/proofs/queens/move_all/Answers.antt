use Rattle.std.proofs.Common.{length, arith}
use Rattle.cg_amazons.specs.MoveParts.{IsQueenMove}
use Rattle.cg_amazons.proofs.QueenMoves.{all_queens_taken}
use Rattle.cg_amazons.proofs.Taken.{takes_all, takes_next}
use Rattle.cg_amazons.proofs.queens.move_all.Goals as goal

pub loop-from-preserved : goal.loop-from-preserved
loop-from-preserved c =
    takes_next c.args.board.now c.args.boards.now.items c.loop-from.boards.items c.move_from.new.boards.items c.args.words.now.queens
    (IsQueenMove c.args.words.now.shape.columns c.args.words.now.queen c.args.board.now.cells) c.loop-from.from
    c.loop-from.invariant c.in_ok-move_from.ensures

pub returns : goal.returns
returns c =
    all_queens_taken c.args.board.now c.args.board.now.cells c.args.words.now c.args.boards.now.items c.loop-from.boards.items c.requires.words
    (takes_all c.args.board.now c.args.boards.now.items c.loop-from.boards.items c.args.words.now.queens
    (IsQueenMove c.args.words.now.shape.columns c.args.words.now.queen c.args.board.now.cells) c.loop-from.from
    (length c.args.board.now.cells) (let a = c.loop-from.auto.from-end in let t = c.loop-from-test.false in omega arith)
    c.loop-from.invariant)

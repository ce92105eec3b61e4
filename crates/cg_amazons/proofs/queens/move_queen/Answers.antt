use Rattle.std.proofs.Common.{length, arith}
use Rattle.cg_amazons.specs.Amazons.{with_queen}
use Rattle.cg_amazons.specs.MoveParts.{IsShot}
use Rattle.cg_amazons.proofs.QueenMoves.{queen_taken}
use Rattle.cg_amazons.proofs.Taken.{takes_all, takes_next}
use Rattle.cg_amazons.proofs.queens.move_queen.Goals as goal

pub loop-to-preserved : goal.loop-to-preserved
loop-to-preserved c =
    takes_next c.args.board.now c.args.boards.now.items c.loop-to.boards.items c.move_onto.new.boards.items c.reached-places.result
    (λ place. IsShot c.args.words.now.shape.columns (with_queen c.args.board.now.cells c.args.from place c.args.words.now.queen) place)
    c.loop-to.to c.loop-to.invariant c.in_ok-move_onto.ensures

pub returns : goal.returns
returns c =
    queen_taken c.args.board.now c.args.board.now.cells c.args.words.now c.reached-places.result c.args.from c.args.boards.now.items c.loop-to.boards.items
    c.requires.words.words c.reached-places.ensures
    (takes_all c.args.board.now c.args.boards.now.items c.loop-to.boards.items c.reached-places.result
    (λ place. IsShot c.args.words.now.shape.columns (with_queen c.args.board.now.cells c.args.from place c.args.words.now.queen) place)
    c.loop-to.to (length c.args.board.now.cells)
    (let a = c.loop-to.auto.to-end in let t = c.loop-to-test.false in omega arith) c.loop-to.invariant)

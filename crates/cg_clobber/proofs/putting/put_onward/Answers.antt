use Rattle.cg_moves.specs.Grid.{with_cells}
use Rattle.cg_clobber.specs.declared.way.Way.TheVariants.{Down, Forth}
use Rattle.cg_clobber.specs.Moves.{moves_that_way}
use Rattle.cg_clobber.proofs.PairMoves.{left-onward, right-onward}
use Rattle.cg_clobber.proofs.Placing.{two_listed}
use Rattle.cg_clobber.proofs.putting.put_onward.Goals as goal

pub returns-in_ok-put_move-in-Left : goal.returns-in_ok-put_move-in-Left
returns-in_ok-put_move-in-Left c =
    let that_way = moves_that_way c.args.player c.args.board.now c.args.cell in
    two_listed (with_cells c.args.board.now) c.put_move-in-Left.result c.args.boards.now.items c.put_move.new.boards.items
    c.put_move-in-Left.new.boards.items (that_way Down) (that_way Forth) _
    (left-onward c.args.player c.args.board.now c.args.cell c.in-Left.is) c.in_ok-put_move-in-Left.ensures
    c.put_move-in-Left.ensures

pub returns-in_ok-put_move-in-Right : goal.returns-in_ok-put_move-in-Right
returns-in_ok-put_move-in-Right c =
    let that_way = moves_that_way c.args.player c.args.board.now c.args.cell in
    two_listed (with_cells c.args.board.now) c.put_move-in-Right-2.result c.args.boards.now.items
    c.put_move-in-Right.new.boards.items c.put_move-in-Right-2.new.boards.items (that_way Forth) (that_way Down) _
    (right-onward c.args.player c.args.board.now c.args.cell c.in-Right.is) c.in_ok-put_move-in-Right.ensures
    c.put_move-in-Right-2.ensures

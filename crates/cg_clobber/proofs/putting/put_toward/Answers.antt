use Rattle.std.proofs.Common.{◌+◌, ◌++◌, ap, sym}
use Rattle.cg_moves.specs.Grid.{with_cells}
use Rattle.cg_clobber.specs.declared.way.Way.TheVariants.{Back, Up}
use Rattle.cg_clobber.specs.Moves.{moves_that_way}
use Rattle.cg_clobber.proofs.Placing.{two_listed}
use Rattle.cg_clobber.proofs.putting.put_toward.Goals as goal

pub returns : goal.returns
returns c =
    let p = c.args.board.now in
    let moves = moves_that_way c.args.player p in
    let back = moves (c.args.cell + 1) Back in
    two_listed (with_cells p) c.put_move_from-2.result c.args.boards.now.items c.put_move_from.new.boards.items
    c.put_move_from-2.new.boards.items back (moves (c.args.cell + c.columns-columns.result) Up) _
    (ap (λ w. back ++ moves (c.args.cell + w) Up) (sym c.columns-columns.ensures.value)) c.in_ok-put_move_from.ensures
    c.put_move_from-2.ensures

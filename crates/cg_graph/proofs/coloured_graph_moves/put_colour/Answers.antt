use Rattle.cg_moves.proofs.Carried.{ok_is}
use Rattle.cg_graph.specs.Colouring.{own}
use Rattle.cg_graph.proofs.Symbols.{has-own}
use Rattle.cg_graph.proofs.coloured_graph_moves.put_colour.Goals as goal

pub set-requires-clause-symbol : goal.set-requires-clause-symbol
set-requires-clause-symbol c =
    rw c.own.ensures
    (rw (ok_is c.in_ok-after.after c.args.board.now c.in_ok-after.ensures)
    (has-own c.args.coloured_graph.now c.args.player c.args.board.now c.requires.has))

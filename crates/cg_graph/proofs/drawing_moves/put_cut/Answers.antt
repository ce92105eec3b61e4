use Rattle.std.proofs.Common.{◌≡◌, true, ap, sym, ◌∙◌, rules}
use Rattle.std.specs.Prelude.{slice_index, slice_set}
use Rattle.cg_moves.specs.Grid.{Grid, with_cells}
use Rattle.cg_moves.proofs.Carried.{ok_is}
use Rattle.cg_graph.specs.Drawings.{graph_of}
use Rattle.cg_graph.specs.Hackenbush.{may_cut}
use Rattle.cg_graph.specs.Paths.{gone}
use Rattle.cg_graph.proofs.Symbols.{has-gone}
use Rattle.cg_graph.proofs.Taken.{cut_put}
use Rattle.cg_graph.proofs.drawing_moves.put_cut.Goals as goal

pub set-requires-clause-symbol : goal.set-requires-clause-symbol
set-requires-clause-symbol c =
    rw (ok_is c.in_ok-cut.cut c.args.board.now c.in_ok-cut.ensures)
    (has-gone c.args.edges.now c.args.board.now c.requires.has)

pub returns : goal.returns
returns c =
    let p = c.args.board.now in
    let may : may_cut c.args.player (slice_index c.args.board.now.cells c.args.index) ≡ true =
    ap (may_cut c.args.player) (sym c.cell.ensures) ∙ sym c.may_cut.ensures ∙ c.if-not-may_cut.false in
    let made = c.set.ensures ∙ ap (λ (q : Grid). with_cells q (slice_set q.cells c.args.index gone))
    (ok_is c.in_ok-cut.cut c.args.board.now c.in_ok-cut.ensures) in
    cut_put (graph_of c.args.edges.now) c.args.player p c.set.new.self c.settled.result c.args.index c.args.boards.now.items
    c.push.new.self.items c.requires.index may made c.settled.ensures (search rules)

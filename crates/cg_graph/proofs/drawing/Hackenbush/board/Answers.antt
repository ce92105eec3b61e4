use Rattle.std.proofs.Common.{arith, ◌∙◌}
use Rattle.cg_moves.proofs.Carried.{ok_is}
use Rattle.cg_graph.proofs.Starts.{start-has, start-is}
use Rattle.cg_graph.proofs.Symbols.{colours_cells}
use Rattle.cg_graph.proofs.drawing.Hackenbush.board.Goals as goal

pub make-requires-clause-cells : goal.make-requires-clause-cells
make-requires-clause-cells c =
    rw (c.deref.ensures.value ∙ c.in_ok-colours.ensures.value)
    (colours_cells c.args.self.now c.in_ok-colours.ensures.sound.edges)

pub returns-clause-value : goal.returns-clause-value
returns-clause-value c =
    start-is c.args.self.now c.edges.result.now c.len-columns.result c.deref.result.now c.in_ok-whole.whole
    c.settled-board.result c.edges.ensures.value (c.deref.ensures.value ∙ c.in_ok-colours.ensures.value)
    (omega (arith, c.len-columns.ensures, c.deref.ensures.len)) (ok_is c.in_ok-whole.whole _ c.in_ok-whole.ensures)
    c.settled-board.ensures

pub returns-clause-has : goal.returns-clause-has
returns-clause-has c =
    rw (returns-clause-value c) (start-has c.args.self.now)

use Rattle.std.proofs.Common.{arith}
use Rattle.cg_moves.proofs.GridFacts.{some-columns}
use Rattle.cg_moves.proofs.board.Board.first_column.Goals as goal

pub first_column-requires-clause-some : goal.first_column-requires-clause-some
first_column-requires-clause-some c =
    let g = c.self.invariant.1.grid in
    let s = g.size in
    let o = g.some in
    some-columns c.self.inside.rows c.self.inside.columns (omega arith)

pub first_column-requires-clause-few : goal.first_column-requires-clause-few
first_column-requires-clause-few c =
    let g = c.self.invariant.1.grid in
    let s = g.size in
    let f = g.few in
    omega arith

pub returns-clause-column : goal.returns-clause-column
returns-clause-column c =
    rw (← c.self.view_is) (rw c.self.invariant.1.grid.size c.first_column.ensures)

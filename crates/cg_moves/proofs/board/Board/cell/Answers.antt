use Rattle.std.proofs.Common.{arith}
use Rattle.cg_moves.proofs.PlaneLemmas.{cell_read}
use Rattle.cg_moves.proofs.board.Board.cell.Goals as goal

pub returns : goal.returns
returns c =
    let b = c.self.inside in
    let k = c.self.invariant.0 in
    let l = c.self.told in
    cell_read b.rows b.columns b.count b.symbols b.planes c.args.self.now c.args.index c.index_at.result c.self.view_is
    c.self.invariant.1 (omega arith) c.requires c.index_at.ensures

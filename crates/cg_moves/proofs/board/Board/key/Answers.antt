use Rattle.cg_moves.proofs.KeyLemmas.{only-words}
use Rattle.cg_moves.proofs.board.Board.key.Goals as goal

pub returns-clause-value : goal.returns-clause-value
returns-clause-value c =
    let p = c.args.self.now in
    let planes = only-words p.symbols p.cells c.planes.result c.planes.ensures.planes in
    λ i. record { rows = c.rows.ensures.value i; columns = c.columns.ensures.value i; planes = planes i }

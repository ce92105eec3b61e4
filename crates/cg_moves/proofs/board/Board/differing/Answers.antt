use Rattle.std.proofs.Common.{◌≡◌, ◌*◌, ap, length, sym, ◌∙◌}
use Rattle.cg_moves.specs.Grid.{Grid}
use Rattle.cg_moves.proofs.Differing.{differing_marks}
use Rattle.cg_moves.proofs.GridFacts.{few-symbols}
use Rattle.cg_moves.proofs.board.Board.differing.Goals as goal

pub returns-clause-cells : goal.returns-clause-cells
returns-clause-cells c i =
    let p = c.args.self.now in
    let q = c.args.other.now in
    let symbols : q.symbols ≡ p.symbols = ap (λ (r : Grid). r.symbols) c.requires in
    let here = c.planes-here.ensures.grid in
    let there = c.planes-there.ensures.grid in
    let long : length p.cells ≡ length q.cells = here.size ∙ sym (there.size ∙ ap (λ (r : Grid). r.rows * r.columns) c.requires) in
    differing_marks p.symbols p.cells q.cells c.planes-here.result c.planes-there.result c.planes-here.ensures.planes
    (rw symbols at c.planes-there.ensures.planes) long i here.cells (rw (← symbols) there.cells)
    (few-symbols p.symbols here.symbols)

use Rattle.std.proofs.Common.{ap, Ok}
use Rattle.cg_moves.specs.Grid.{Grid, IsGrid}
use Rattle.cg_moves.proofs.GridFacts.{few-symbols}
use Rattle.cg_moves.proofs.PlaneLemmas.{grid-is, is_grid-by}
use Rattle.cg_moves.proofs.board.Board.make.Goals as goal

pub invariant_of-result : goal.invariant_of-result
invariant_of-result c =
    let p : Grid = record {
      rows = c.args.rows;
      columns = c.args.columns;
      symbols = c.args.symbols.now;
      cells = c.args.cells.now;
    } in
    let g : IsGrid p = record {
      symbols = c.requires.symbols;
      size = c.requires.size;
      some = c.requires.some;
      few = c.requires.few;
      cells = c.requires.cells;
    } in (
      few-symbols c.args.symbols.now c.requires.symbols,
      is_grid-by p _ c.planes_of.result c.symbols_in.ensures g c.planes_of.ensures,
    )

pub returns : goal.returns
returns c =
    let p : Grid = record {
      rows = c.args.rows;
      columns = c.args.columns;
      symbols = c.args.symbols.now;
      cells = c.args.cells.now;
    } in
    let g : IsGrid p = record {
      symbols = c.requires.symbols;
      size = c.requires.size;
      some = c.requires.some;
      few = c.requires.few;
      cells = c.requires.cells;
    } in
    ap (λ (q : Grid). Ok q) (grid-is p _ c.planes_of.result c.symbols_in.ensures g c.planes_of.ensures)

use Rattle.std.proofs.Common.{◌*◌, rules, length, ap, sym, ◌∙◌, arith}
use Rattle.cg_moves.specs.Texts.{rows_of}
use Rattle.cg_moves.proofs.TextLemmas.{cells-symbols, few-rows, not-ragged, taken, rows-by}
use Rattle.cg_moves.proofs.grid.read_grid.Goals as goal

pub overflow_cast-rows : goal.overflow_cast-rows
overflow_cast-rows c =
    let rows = rows_of c.args.one_row c.args.text.now in
    let size = c.size_of-size.ensures ∙ not-ragged c.columns_in-columns.result 1 rows (sym c.ragged_in.ensures
    ∙ c.in_default-ragged_in.is) in
    let few = few-rows (length rows) c.columns_in-columns.result c.size_of-size.result size (omega (arith, c.if-size-gt64.false))
    c.if-columns-eq0.false in
    let is = rows-by (length rows) c.columns_in-columns.result c.size_of-size.result size c.if-columns-eq0.false in
    omega (arith, few, is)

pub make-requires-clause-size : goal.make-requires-clause-size
make-requires-clause-size c =
    let rows = rows_of c.args.one_row c.args.text.now in
    let size = c.size_of-size.ensures ∙ not-ragged c.columns_in-columns.result 1 rows (sym c.ragged_in.ensures
    ∙ c.in_default-ragged_in.is) in
    ap length (taken _ _ _ c.size_of-size.ensures c.cells_in-cells.ensures) ∙ sym c.size_of-size.ensures ∙ size
    ∙ ap (λ n. n * c.columns_in-columns.result)
    (sym (rows-by (length rows) c.columns_in-columns.result c.size_of-size.result size c.if-columns-eq0.false))

pub make-requires-clause-cells : goal.make-requires-clause-cells
make-requires-clause-cells c =
    cells-symbols c.args.one_row c.args.symbols.now c.args.text.now _ (taken _ _ _ c.size_of-size.ensures c.cells_in-cells.ensures) (sym c.first_foreign.ensures ∙ c.in_default.is)

pub returns-clause-read : goal.returns-clause-read
returns-clause-read c =
    let rows = rows_of c.args.one_row c.args.text.now in
    let size = c.size_of-size.ensures ∙ not-ragged c.columns_in-columns.result 1 rows (sym c.ragged_in.ensures
    ∙ c.in_default-ragged_in.is) in
    let is = rows-by (length rows) c.columns_in-columns.result c.size_of-size.result size c.if-columns-eq0.false in
    search rules

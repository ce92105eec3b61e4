use Rattle.std.proofs.Common.{◌≡◌, ◌<◌, ◌++◌, ℕ, List, ◌∷◌, [], true, false, ap, sym, subst, ◌∙◌, arith}
use Rattle.std.specs.Prelude.{All}
use Rattle.std.specs.String.{string_bytes}
use Rattle.std.proofs.lemmas.List.Elements.{All-drop, All-take}
use Rattle.cg_moves.specs.Texts.{ReadsBack, bar, in_rows, joined, text_of}
use Rattle.cg_moves.proofs.ReadBack.{cells-ascii, one_row-reads_back, row_written, some-rows, text-reads_back}
use Rattle.cg_moves.proofs.writing.text.Goals as goal

abbrev IsAscii : ℕ → Type 0
IsAscii x = x < 128

pub write_row-requires : goal.write_row-requires
write_row-requires c =
    let same = c.as_slice-cells.ensures ∙ c.in_ok-cells.ensures.value in
    All-take IsAscii c.from-columns.result c.as_slice-cells.result.now
    (subst (λ (z : List ℕ). All IsAscii z) (sym same) (cells-ascii c.args.board.now c.in_ok-cells.ensures.grid))

pub write_row-requires-in-loop-row : goal.write_row-requires-in-loop-row
write_row-requires-in-loop-row c =
    let same = c.as_slice-cells.ensures ∙ c.in_ok-cells.ensures.value in
    All-take IsAscii _ _ (All-drop IsAscii _ c.as_slice-cells.result.now
    (subst (λ (z : List ℕ). All IsAscii z) (sym same) (cells-ascii c.args.board.now c.in_ok-cells.ensures.grid)))

pub loop-row-preserved : goal.loop-row-preserved
loop-row-preserved c =
    let same = c.as_slice-cells.ensures ∙ c.in_ok-cells.ensures.value in
    let wide = c.from-columns.ensures ∙ c.columns.ensures.value in
    let some = c.loop-row.auto.row in
    let barred : string_bytes c.push.new.self ≡ string_bytes c.loop-row.text ++ (bar ∷ []) =
    c.in_ok-push.ensures.bytes ∙ ap (λ z. string_bytes c.loop-row.text ++ z) (c.in_ok-push.ensures.ascii (omega arith)) in
    row_written c.loop-row.row c.args.board.now.columns c.from-columns.result c.args.board.now.cells
    c.as_slice-cells.result.now (string_bytes c.loop-row.text) (string_bytes c.push.new.self)
    (string_bytes c.write_row-in-loop-row.new.text) some c.loop-row.invariant barred same wide c.in_ok-write_row-2.ensures

pub returns-clause-text : goal.returns-clause-text
returns-clause-text c =
    let p = c.args.board.now in
    let rows = c.from-row-end.ensures ∙ c.rows.ensures.value in
    let some = some-rows p c.in_ok-cells.ensures.grid in
    let low = c.loop-row.auto.row-end in
    let high = c.loop-row-test.false in
    let all : c.loop-row.row ≡ p.rows = omega (arith, rows, some, high, low (omega (arith, rows, some))) in
    c.loop-row.invariant ∙ ap (λ n. joined (in_rows n p.columns p.cells)) all

pub returns-clause-reads_back : goal.returns-clause-reads_back
returns-clause-reads_back c =
    let p = c.args.board.now in
    let is : string_bytes c.loop-row.text ≡ text_of p = returns-clause-text c in
    subst (λ (z : List ℕ). ReadsBack p false z) (sym is) (text-reads_back p c.in_ok-cells.ensures.grid)

pub returns-clause-one_row : goal.returns-clause-one_row
returns-clause-one_row c one =
    let p = c.args.board.now in
    let is : string_bytes c.loop-row.text ≡ text_of p = returns-clause-text c in
    subst (λ (z : List ℕ). ReadsBack p true z) (sym is) (one_row-reads_back p c.in_ok-cells.ensures.grid one)

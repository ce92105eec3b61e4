-- The rows and columns that bound a set of cells in a word.
use Rattle.std.proofs.Common.{◌≡◌, refl, ℕ, ◌+◌, ◌-◌, ◌*◌, ◌/◌, ◌<◌, ◌≤◌, true, length, ap, sym, ◌∙◌, subst, arith}
use Rattle.std.specs.Int.{bit_at}
use Rattle.std.proofs.Math.Nat.{mul-le-mul_right}
use Rattle.std.proofs.lemmas.Bool.{eq-eqb, eqb-true}
use Rattle.std.proofs.lemmas.Nat.{le-div}
use Rattle.cg_moves.specs.Grid.{Grid, IsGrid}
use Rattle.cg_pieces.specs.declared.frame.Frame.{Frame}
use Rattle.cg_pieces.specs.Boxes.{Box, column_of, row_of, set_box}
use Rattle.cg_pieces.specs.Frames.{IsBoxIn, IsEdge, box_from}
use Rattle.cg_pieces.specs.Words.{IsSetFrom, in_word}
use Rattle.cg_pieces.proofs.Bounds.{cell-of, set-bounds}
use Rattle.cg_pieces.proofs.Frames.{columns-inside, rows-inside, Runs, runs-are, some-columns, some-rows, wide-grid}

row-order : (width k l : ℕ) → 0 < width → k ≤ l → row_of width k ≤ row_of width l
row-order width k l wide h = le-div (k / width) l width wide (let c = cell-of width k in omega (arith, c, h))

module _ (p : Grid) (grid : IsGrid p) (set first : ℕ) (from : IsSetFrom p set first) where
  pub in-set : (k : ℕ) → in_word set k ≡ true → k < length p.cells
  in-set k t = from.below k (eqb-true (bit_at set k) 1 t)

  pub first-in : in_word set first ≡ true
  first-in = eq-eqb (bit_at set first) 1 from.here

  -- ---- the rows run from the first cell's to the last one's, and the columns as those of all rows as one

  row-runs : (last : ℕ) → bit_at set last ≡ 1 → ((k : ℕ) → bit_at set k ≡ 1 → k ≤ last)
      → Runs (row_of p.columns) (in_word set) (row_of p.columns first) (row_of p.columns last)
  row-runs last last_in last_is = record {
    each = λ k t.
        let one = eqb-true (bit_at set k) 1 t in (
          row-order p.columns first k (wide-grid p grid) (from.least k one),
          row-order p.columns k last (wide-grid p grid) (last_is k one),
        );
    lowest = first;
    lowest_in = first-in;
    lowest_is = refl;
    highest = last;
    highest_in = eq-eqb (bit_at set last) 1 last_in;
    highest_is = refl;
  }

  column-runs : (left right : ℕ) → IsEdge (λ edge column. edge ≤ column) p.columns set left
      → IsEdge (λ edge column. column ≤ edge) p.columns set right → Runs (column_of p.columns) (in_word set) left right
  column-runs left right low high = record {
    each = λ k t. let one = eqb-true (bit_at set k) 1 t in (low.each k one, high.each k one);
    lowest = low.cell;
    lowest_in = eq-eqb (bit_at set low.cell) 1 low.in_set;
    lowest_is = low.column;
    highest = high.cell;
    highest_in = eq-eqb (bit_at set high.cell) 1 high.in_set;
    highest_is = high.column;
  }

  pub frame-is : (columns last left right : ℕ) → columns ≡ p.columns → bit_at set last ≡ 1
      → ((k : ℕ) → bit_at set k ≡ 1 → k ≤ last) → IsEdge (λ edge column. edge ≤ column) p.columns set left
      → IsEdge (λ edge column. column ≤ edge) p.columns set right
      → box_from (record {
        top = first / columns;
        left = left;
        rows = last / columns - first / columns + 1;
        columns = right - left + 1;
      }) ≡ set_box (in_word set) p
  frame-is columns last left right e last_in last_is low high =
      let bounds = set-bounds p (in_word set) first in-set first-in in
      let box : Box = set_box (in_word set) p in
      let down = runs-are (row_of p.columns) (in_word set) (row_of p.columns first) (row_of p.columns last) box.top box.rows
      (row-runs last last_in last_is) bounds.rows in
      let across = runs-are (column_of p.columns) (in_word set) left right box.left box.columns
      (column-runs left right low high) bounds.columns in
      let top = ap (λ w. first / w) e ∙ down.0 in
      let many = ap (λ w. last / w - first / w + 1) e ∙ down.1 in
      λ i. record {
        top = top i;
        left = across.0 i;
        rows = many i;
        columns = across.1 i;
      }

  -- ---- the box is on the board

  pub box-in : (f : Frame) (columns : ℕ) → box_from f ≡ set_box (in_word set) p → columns ≡ p.columns → IsBoxIn columns (box_from f)
  box-in f columns e same =
      let wide = wide-grid p grid in
      let rows = rows-inside p (in_word set) in-set first first-in wide grid.size in
      let few : ((set_box (in_word set) p).top + (set_box (in_word set) p).rows) * p.columns ≤ 64 =
      (let a : ((set_box (in_word set) p).top + (set_box (in_word set) p).rows) * p.columns ≤ p.rows * p.columns =
      mul-le-mul_right p.columns rows in
      let s = grid.size in
      let b = grid.few in
      omega (arith, a, s, b)) in
      let is : IsBoxIn p.columns (set_box (in_word set) p) = record {
        some_rows = some-rows p (in_word set) in-set first first-in wide grid.size;
        some_columns = some-columns p (in_word set) in-set first first-in wide grid.size;
        wide = columns-inside p (in_word set) in-set first first-in wide grid.size;
        few = few;
      } in
      subst (λ w. IsBoxIn w (box_from f)) (sym same) (subst (IsBoxIn p.columns) (sym e) is)

-- The rows and columns that bound cells, and the cells inside.
use Rattle.std.proofs.lemmas.Bool.Decides.{nat_tests}
use Rattle.std.proofs.Common.{◌≡◌, ℕ, suc, ◌+◌, ◌-◌, ◌*◌, ◌<◌, ◌≤◌, inl, inr, Bool, true, if◌then◌else◌, List, length, slice_index, ap, arith}
use Rattle.std.specs.Prelude.{Contains}
use Rattle.std.proofs.Math.Nat.{mod-lt, mul-le-mul_left, mul-le-mul_right}
use Rattle.std.proofs.lemmas.List.{length-map}
use Rattle.cg_dyadic.proofs.Truth.{false-from, true-or-not}
use Rattle.cg_moves.specs.Grid.{AreCells, Grid, IsGrid}
use Rattle.cg_pieces.specs.declared.frame.Frame.{Frame}
use Rattle.cg_pieces.specs.Boxes.{Box, column_of, cropped, row_of, set_box, unboxed}
use Rattle.cg_pieces.specs.Frames.{box_from}
use Rattle.cg_pieces.proofs.Bounds.{Bounds, BoundsBy, cell-of, set-bounds}
use Rattle.cg_pieces.proofs.Crops.{cell-below, crop-at, inner-column}
use Rattle.cg_moves.proofs.Counted.{counted-length}

-- a board of these parts
abbrev pub made : ℕ → ℕ → List ℕ → List ℕ → Grid
made rows columns symbols cells = record {
  rows = rows;
  columns = columns;
  symbols = symbols;
  cells = cells;
}

-- ---- the box of a set, by its first and last rows and columns

-- the lines, as rows, of the cells in the set run from the first to the last
pub record Runs (line : ℕ → ℕ) (set : ℕ → Bool) (first last : ℕ) : Type 0 where
  pub each : (k : ℕ) → set k ≡ true → (first ≤ line k) × (line k ≤ last)
  pub lowest : ℕ
  pub lowest_in : set lowest ≡ true
  pub lowest_is : line lowest ≡ first
  pub highest : ℕ
  pub highest_in : set highest ≡ true
  pub highest_is : line highest ≡ last

pub runs-are : (line : ℕ → ℕ) (set : ℕ → Bool) (low high first many : ℕ) → Runs line set low high
    → BoundsBy line set first many → (low ≡ first) × (high - low + 1 ≡ many)
runs-are line set low high first many r b =
    let one = r.each b.lowest b.lowest_in in
    let two = b.low r.lowest r.lowest_in in
    let three = r.each b.highest b.highest_in in
    let four = b.high r.highest r.highest_in in
    let e = b.lowest_is in
    let f = r.lowest_is in
    let g = b.highest_is in
    let h = r.highest_is in
    let low_is : low ≡ first = omega (arith, one.0, two, e, f) in
    let high_is : suc high ≡ first + many = omega (arith, three.1, four, g, h) in
    let order : low ≤ high = omega (arith, one.0, one.1) in
    (low_is, omega (arith, low_is, high_is, order))

module _ (p : Grid) (set : ℕ → Bool) (within : (k : ℕ) → set k ≡ true → k < length p.cells) (first : ℕ)
    (some : set first ≡ true) where
  abbrev bounds : Bounds p.columns set (set_box set p)
  bounds = set-bounds p set first within some

  abbrev box : Box
  box = set_box set p

  -- ---- the cells of the box stand on the board

  row-inside : (w r m : ℕ) → m < r * w → row_of w m < r
  row-inside w r m h = grind (arith, nat_tests, mul-le-mul_left, cell-of)

  module _ (wide : 0 < p.columns) (size : length p.cells ≡ p.rows * p.columns) where
    pub rows-inside : box.top + box.rows ≤ p.rows
    rows-inside =
        let k = bounds.rows.highest in
        let below = within k bounds.rows.highest_in in
        let r = row-inside p.columns p.rows k (omega (arith, below, size)) in
        let e = bounds.rows.highest_is in
        omega (arith, r, e)

    pub columns-inside : box.left + box.columns ≤ p.columns
    columns-inside =
        let k = bounds.columns.highest in
        let e = bounds.columns.highest_is in
        let c = mod-lt k wide in
        omega (arith, c, e)

    pub some-rows : 1 ≤ box.rows
    some-rows =
        let a = bounds.rows.low first some in let b = bounds.rows.high first some in omega (arith, a, b)

    pub some-columns : 1 ≤ box.columns
    some-columns =
        let a = bounds.columns.low first some in let b = bounds.columns.high first some in omega (arith, a, b)

    pub few-cells : box.rows * box.columns ≤ length p.cells
    few-cells = grind (arith, nat_tests, mul-le-mul_left, columns-inside, mul-le-mul_right, rows-inside)

    pub some-cells : 1 ≤ box.rows * box.columns
    some-cells = grind (arith, nat_tests, mul-le-mul_left, some-columns, some-rows)

    pub inner-row : (m : ℕ) → m < box.rows * box.columns → box.top + row_of box.columns m < p.rows
    inner-row m h =
        let r = row-inside box.columns box.rows m h in let t = rows-inside in omega (arith, r, t)

    pub unboxed-below : (m : ℕ) → m < box.rows * box.columns → unboxed box p.columns m < length p.cells
    unboxed-below m h =
        let c = cell-below p.columns p.rows (box.top + row_of box.columns m) (box.left + column_of box.columns m)
        (inner-row m h) (inner-column 0 p set within first some wide m) in
        omega (arith, c, size)

    -- ---- the board of the set

    pub cropped-size : (blank : ℕ) → length (cropped blank set p).cells ≡ box.rows * box.columns
    unfolding cropped
    cropped-size blank = grind (arith, nat_tests, length-map, counted-length)

    pub cropped-cells : (blank : ℕ) → AreCells p.symbols p.cells → Contains p.symbols blank → AreCells p.symbols (cropped blank set p).cells
    cropped-cells blank cells has m below =
        let z = cropped-size blank in
        let h : m < box.rows * box.columns = omega (arith, below, z) in
        let k : ℕ = unboxed box p.columns m in
        rw (crop-at blank p set within first some wide m h) (elim (true-or-not (set k)) [
          | inl t ↦ rw (ap (λ b. if b then slice_index p.cells k else blank) t) (cells k (unboxed-below m h))
          | inr f ↦ rw (ap (λ b. if b then slice_index p.cells k else blank) (false-from (set k) f)) has
        ])

    -- ---- by a frame

    module _ (b : Frame) (frame : box_from b ≡ set_box set p) where
      pub frame-cells : b.rows * b.columns ≡ box.rows * box.columns
      frame-cells = ap (λ z. z.rows * z.columns) frame

      pub board-is : (blank : ℕ) (symbols cells : List ℕ) → symbols ≡ p.symbols → cells ≡ (cropped blank set p).cells
          → made b.rows b.columns symbols cells ≡ cropped blank set p
      unfolding cropped
      board-is blank symbols cells e f = grind (arith, nat_tests)

-- a board has columns
pub wide-grid : (p : Grid) → IsGrid p → 0 < p.columns
wide-grid p grid = grind (arith, nat_tests)

pub few-columns : (p : Grid) → IsGrid p → p.columns ≤ 64
few-columns p grid = grind (arith, nat_tests, mul-le-mul_right)

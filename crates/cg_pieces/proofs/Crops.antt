-- The board of a set of cells, and that the board of a part of the set is the same when it is made from that board.
use Rattle.std.proofs.lemmas.Bool.Decides.{nat_tests}
use Rattle.std.proofs.Common.{◌≡◌, ◌≢◌, ℕ, zero, suc, ◌+◌, ◌-◌, ◌*◌, ◌<◌, ◌≤◌, inl, inr, Bool, true}
use Rattle.std.proofs.Common.{if◌then◌else◌, length, map, get_or, slice_index, ap, sym, ◌∙◌, arith}
use Rattle.std.proofs.Math.Nat.{mod-lt, mul-le-mul_left}
use Rattle.cg_dyadic.proofs.Truth.{false-from, true-or-not}
use Rattle.cg_moves.specs.Grid.{Grid}
use Rattle.cg_moves.specs.Rising.{counted}
use Rattle.cg_pieces.specs.Boxes.{Box, boxed, cell_at, column_of, cropped, row_of, set_box, shown_cell, unboxed}
use Rattle.cg_pieces.proofs.Bounds.{Bounds, BoundsBy, cell-of, column-cell, row-cell, set-bounds}

pub cell-below : (w r a c : ℕ) → a < r → c < w → cell_at w a c < r * w
cell-below w r a c h k = grind (arith, nat_tests, mul-le-mul_left)

counted-get : (f : ℕ → ℕ) (i n m : ℕ) → m < n → get_or (map f (counted i n)) m 0 ≡ f (i + m)
counted-get f i zero m h = absurd (omega arith)
counted-get f i (suc n) zero h = let e : i ≡ i + 0 = omega arith in ap f e
counted-get f i (suc n) (suc m) h =
    let e : suc i + m ≡ i + suc m = omega arith in counted-get f (suc i) n m (omega arith) ∙ ap f e

-- ---- a set that is shown elsewhere, each line of it by as many lines less

pub lines-moved : (line line_there : ℕ → ℕ) (set there : ℕ → Bool) (first many first_there many_there shift : ℕ)
    (place : ℕ → ℕ) → BoundsBy line set first many → BoundsBy line_there there first_there many_there
    → ((k : ℕ) → set k ≡ true → (there (place k) ≡ true) × (shift ≤ line k) × (line_there (place k) ≡ line k - shift))
    → ((m : ℕ) → there m ≡ true → (k : ℕ) × (set k ≡ true) × (m ≡ place k))
    → (first_there + shift ≡ first) × (many_there ≡ many)
lines-moved line line_there set there first many first_there many_there shift place b c forth back =
    let (t, s, e) = forth b.lowest b.lowest_in in
    let one = c.low (place b.lowest) t in
    let b_low = b.lowest_is in
    let (k, in_k, f) = back c.lowest c.lowest_in in
    let (t_k, s_k, e_k) = forth k in_k in
    let two = b.low k in_k in
    let at_k : line_there c.lowest ≡ line k - shift = ap line_there f ∙ e_k in
    let c_low = c.lowest_is in
    let (u, v, g) = forth b.highest b.highest_in in
    let three = c.high (place b.highest) u in
    let b_high = b.highest_is in
    let (l, in_l, h) = back c.highest c.highest_in in
    let (t_l, s_l, e_l) = forth l in_l in
    let four = b.high l in_l in
    let at_l : line_there c.highest ≡ line l - shift = ap line_there h ∙ e_l in
    let c_high = c.highest_is in
    (omega arith, omega arith)

module _ (blank : ℕ) (p : Grid) (set : ℕ → Bool) (within : (k : ℕ) → set k ≡ true → k < length p.cells) (some : ℕ)
    (some_in : set some ≡ true) (wide : 0 < p.columns) where
  abbrev box : Box
  box = set_box set p

  abbrev place : ℕ → ℕ
  place k = boxed box p.columns k

  bounds : Bounds p.columns set box
  bounds = set-bounds p set some within some_in

  pub place-row : (k : ℕ) → set k ≡ true → row_of box.columns (place k) ≡ row_of p.columns k - box.top
  place-row k t = grind (arith, nat_tests, bounds, row-cell)

  pub place-column : (k : ℕ) → set k ≡ true → column_of box.columns (place k) ≡ column_of p.columns k - box.left
  place-column k t = grind (arith, nat_tests, bounds, column-cell)

  pub row-low : (k : ℕ) → set k ≡ true → box.top ≤ row_of p.columns k
  row-low k t = bounds.rows.low k t

  pub column-low : (k : ℕ) → set k ≡ true → box.left ≤ column_of p.columns k
  column-low k t = bounds.columns.low k t

  pub place-below : (k : ℕ) → set k ≡ true → place k < box.rows * box.columns
  place-below k t =
      let a = bounds.rows.low k t in let b = bounds.rows.high k t in
      let c = bounds.columns.low k t in let d = bounds.columns.high k t in
      cell-below box.columns box.rows (row_of p.columns k - box.top) (column_of p.columns k - box.left) (omega arith)
      (omega arith)

  pub unplace : (k : ℕ) → set k ≡ true → unboxed box p.columns (place k) ≡ k
  unplace k t = grind (arith, nat_tests, bounds, place-row, place-column, cell-of)

  -- the columns of the box are columns of the board
  pub inner-column : (m : ℕ) → box.left + column_of box.columns m < p.columns
  inner-column m = grind (arith, nat_tests, bounds, mod-lt)

  pub place-unplaced : (m : ℕ) → place (unboxed box p.columns m) ≡ m
  place-unplaced m = grind (arith, nat_tests, row-cell, inner-column, column-cell, cell-of)

  -- ---- its symbols

  pub crop-at : (m : ℕ) → m < box.rows * box.columns
      → slice_index (cropped blank set p).cells m ≡ shown_cell blank set p.cells (unboxed box p.columns m)
  unfolding cropped
  crop-at m h = counted-get (λ m. shown_cell blank set p.cells (unboxed box p.columns m)) 0 (box.rows * box.columns) m h
      ∙ (let e : 0 + m ≡ m = omega arith in ap (λ z. shown_cell blank set p.cells (unboxed box p.columns z)) e)

  pub crop-symbol : (k : ℕ) → set k ≡ true → slice_index (cropped blank set p).cells (place k) ≡ slice_index p.cells k
  crop-symbol k t = grind (arith, nat_tests, crop-at, place-below, unplace)

  pub crop-back : (m : ℕ) → m < box.rows * box.columns → slice_index (cropped blank set p).cells m ≢ blank → (k : ℕ) × (set k ≡ true) × (m ≡ place k)
  crop-back m h other =
      let k : ℕ = unboxed box p.columns m in
      elim (true-or-not (set k)) [
        | inl t ↦ (k, t, sym (place-unplaced m))
        | inr f ↦ absurd (other (crop-at m h ∙ ap (λ b. if b then slice_index p.cells k else blank) (false-from (set k) f)))
      ]

-- The board of a part of a set, made from the board of the set.
use Rattle.std.proofs.lemmas.Bool.Decides.{nat_tests}
use Rattle.std.proofs.Common.{◌≡◌, ℕ, ◌+◌, ◌*◌, ◌<◌, inl, inr, Bool, true, List, [], filter, length, map, slice_index, ap, sym, ◌∙◌, arith}
use Rattle.cg_dyadic.proofs.Truth.{false-from, true-or-not}
use Rattle.cg_moves.specs.Grid.{Grid, with_cells}
use Rattle.cg_moves.specs.Rising.{counted}
use Rattle.cg_moves.proofs.Members.{map-agree}
use Rattle.cg_pieces.specs.Boxes.{Box, box_of, boxed, column_of, cropped, row_of, set_box, shown_cell, unboxed}
use Rattle.cg_pieces.proofs.Bounds.{Bounds, column-cell, row-cell, same-cell, set-bounds}
use Rattle.cg_pieces.proofs.Crops.{column-low, inner-column, lines-moved, place-column, place-row, row-low}

shown-same : (blank : ℕ) (set there : ℕ → Bool) (xs ys : List ℕ) (k m : ℕ) → there m ≡ set k
    → (set k ≡ true → slice_index ys m ≡ slice_index xs k) → shown_cell blank there ys m ≡ shown_cell blank set xs k
shown-same blank set there xs ys k m e same = grind (arith, nat_tests, true-or-not, false-from)

-- the same set with the same symbols
pub crop-same : (blank : ℕ) (p : Grid) (cells : List ℕ) (set there : ℕ → Bool) → length cells ≡ length p.cells
    → ((k : ℕ) → there k ≡ set k) → ((k : ℕ) → set k ≡ true → slice_index cells k ≡ slice_index p.cells k)
    → cropped blank there (with_cells p cells) ≡ cropped blank set p
unfolding cropped
crop-same blank p cells set there long sets same =
    let box_same : set_box there (with_cells p cells) ≡ set_box set p =
    (λ i. box_of p.columns (filter (λ k. sets k i) (counted 0 (long i)))) in
    let f : Box → ℕ → ℕ = λ b m. shown_cell blank set p.cells (unboxed b p.columns m) in
    let h : ℕ → ℕ = λ m. shown_cell blank there cells (unboxed (set_box there (with_cells p cells)) p.columns m) in
    let b : Box = set_box there (with_cells p cells) in
    let cells_same : map h (counted 0 (b.rows * b.columns)) ≡ map (f b) (counted 0 (b.rows * b.columns)) =
    map-agree h (f b) (counted 0 (b.rows * b.columns))
    (λ m i. shown-same blank set there p.cells cells (unboxed b p.columns m) (unboxed b p.columns m)
    (sets (unboxed b p.columns m)) (same (unboxed b p.columns m))) in
    (λ i. record {
      rows = b.rows;
      columns = b.columns;
      symbols = p.symbols;
      cells = cells_same i;
    }) ∙ ap (λ (c : Box). record {
      rows = c.rows;
      columns = c.columns;
      symbols = p.symbols;
      cells = map (f c) (counted 0 (c.rows * c.columns));
    }) box_same

module _ (blank : ℕ) (p : Grid) (set : ℕ → Bool) (within : (k : ℕ) → set k ≡ true → k < length p.cells) (some : ℕ)
    (some_in : set some ≡ true) (wide : 0 < p.columns) where
  abbrev outer : Box
  outer = set_box set p

  abbrev place : ℕ → ℕ
  place k = boxed outer p.columns k

  abbrev piece : Grid
  piece = cropped blank set p

  -- a part of the set on the board with other cells, and the same part on the set's board with other cells
  pub record PartShown (part : ℕ → Bool) (cells : List ℕ) (there : ℕ → Bool) (shown : List ℕ) : Type 0 where
    pub long : length cells ≡ length p.cells
    pub inside : (k : ℕ) → part k ≡ true → set k ≡ true
    pub member : ℕ
    pub member_in : part member ≡ true
    pub same : (k : ℕ) → set k ≡ true → there (place k) ≡ part k
    pub back : (m : ℕ) → there m ≡ true → (k : ℕ) × (set k ≡ true) × (m ≡ place k)
    pub below : (m : ℕ) → there m ≡ true → m < length shown
    pub symbol : (k : ℕ) → set k ≡ true → slice_index shown (place k) ≡ slice_index cells k

  module _ (part : ℕ → Bool) (cells : List ℕ) (there : ℕ → Bool) (shown : List ℕ) (o : PartShown part cells there shown) where
    abbrev big : Box
    big = set_box part (with_cells p cells)

    abbrev small : Box
    small = box_of outer.columns (filter there (counted 0 (length shown)))

    big-bounds : Bounds p.columns part big
    big-bounds = set-bounds (with_cells p cells) part o.member
        (λ k t. let a = within k (o.inside k t) in let e = o.long in omega (arith, a, e)) o.member_in

    place-there : (k : ℕ) → part k ≡ true → there (place k) ≡ true
    place-there k t = o.same k (o.inside k t) ∙ t

    small-bounds : Bounds outer.columns there small
    small-bounds =
        set-bounds (record { rows = 0; columns = outer.columns; symbols = []; cells = shown }) there (place o.member) o.below
        (place-there o.member o.member_in)

    back-part : (m : ℕ) → there m ≡ true → (k : ℕ) × (part k ≡ true) × (m ≡ place k)
    back-part m t = let (k, in_set, e) = o.back m t in (k, sym (o.same k in_set) ∙ ap there (sym e) ∙ t, e)

    rows-moved : (small.top + outer.top ≡ big.top) × (small.rows ≡ big.rows)
    rows-moved =
        lines-moved (row_of p.columns) (row_of outer.columns) part there big.top big.rows small.top small.rows outer.top place
        big-bounds.rows small-bounds.rows
        (λ k t. (
          place-there k t,
          row-low blank p set within some some_in wide k (o.inside k t),
          place-row blank p set within some some_in wide k (o.inside k t),
        ))
        back-part

    columns-moved : (small.left + outer.left ≡ big.left) × (small.columns ≡ big.columns)
    columns-moved =
        lines-moved (column_of p.columns) (column_of outer.columns) part there big.left big.columns small.left small.columns
        outer.left place big-bounds.columns small-bounds.columns
        (λ k t. (
          place-there k t,
          column-low blank p set within some some_in wide k (o.inside k t),
          place-column blank p set within some some_in wide k (o.inside k t),
        ))
        back-part

    wide-outer : 0 < outer.columns
    wide-outer =
        let h = (set-bounds p set some within some_in).columns in
        let a = h.low some some_in in
        let b = h.high some some_in in
        omega (arith, a, b)

    -- the cell at each place of the two boxes
    abbrev at_big : ℕ → ℕ
    at_big m = unboxed big p.columns m

    abbrev at_small : ℕ → ℕ
    at_small m = unboxed small outer.columns m

    big-row : (m : ℕ) → row_of p.columns (at_big m) ≡ big.top + row_of big.columns m
    big-row m = row-cell p.columns (big.top + row_of big.columns m) (big.left + column_of big.columns m) (inner-column blank (with_cells p cells) part
        (λ k t. let a = within k (o.inside k t) in let e = o.long in omega (arith, a, e)) o.member o.member_in wide m)

    big-column : (m : ℕ) → column_of p.columns (at_big m) ≡ big.left + column_of big.columns m
    big-column m = column-cell p.columns (big.top + row_of big.columns m) (big.left + column_of big.columns m)
        (inner-column blank (with_cells p cells) part
        (λ k t. let a = within k (o.inside k t) in let e = o.long in omega (arith, a, e)) o.member o.member_in wide m)

    small-row : (m : ℕ) → row_of outer.columns (at_small m) ≡ small.top + row_of big.columns m
    small-row m = row-cell outer.columns (small.top + row_of small.columns m) (small.left + column_of small.columns m)
        (inner-column blank (record { rows = 0; columns = outer.columns; symbols = []; cells = shown }) there o.below
        (place o.member) (place-there o.member o.member_in) wide-outer m)
        ∙ ap (λ z. small.top + row_of z m) columns-moved.1

    small-column : (m : ℕ) → column_of outer.columns (at_small m) ≡ small.left + column_of big.columns m
    small-column m =
        column-cell outer.columns (small.top + row_of small.columns m) (small.left + column_of small.columns m)
        (inner-column blank (record { rows = 0; columns = outer.columns; symbols = []; cells = shown }) there o.below
        (place o.member) (place-there o.member o.member_in) wide-outer m)
        ∙ ap (λ z. small.left + column_of z m) columns-moved.1

    -- a cell of the set stands in the small box where it stands in the big one
    placed-at : (m : ℕ) → set (at_big m) ≡ true → place (at_big m) ≡ at_small m
    placed-at m t = grind (arith, nat_tests, rows-moved, columns-moved, big-row, big-column, small-row, small-column, place-row, place-column, same-cell)

    -- what stands in the small box is that cell
    at-placed : (m k : ℕ) → set k ≡ true → at_small m ≡ place k → k ≡ at_big m
    at-placed m k t h =
        let r = rows-moved.0 in let c = columns-moved.0 in
        let a = big-row m in let b = big-column m in let d = small-row m in let e = small-column m in
        let low = row-low blank p set within some some_in wide k t in
        let left = column-low blank p set within some some_in wide k t in
        let rows : row_of p.columns k ≡ row_of p.columns (at_big m) =
        (let f = place-row blank p set within some some_in wide k t in
        let g : row_of outer.columns (at_small m) ≡ row_of outer.columns (place k) = ap (row_of outer.columns) h in
        omega (arith, f, g, r, a, d, low)) in
        let columns : column_of p.columns k ≡ column_of p.columns (at_big m) =
        (let f = place-column blank p set within some some_in wide k t in
        let g : column_of outer.columns (at_small m) ≡ column_of outer.columns (place k) = ap (column_of outer.columns) h in
        omega (arith, f, g, c, b, e, left)) in
        same-cell p.columns k (at_big m) rows columns

    member-same : (m : ℕ) → there (at_small m) ≡ part (at_big m)
    member-same m = elim (true-or-not (part (at_big m))) [
      | inl t ↦ ap there (sym (placed-at m (o.inside (at_big m) t))) ∙ o.same (at_big m) (o.inside (at_big m) t)
      | inr f ↦ false-from (there (at_small m)) (λ t.
          let (k, in_part, e) = back-part (at_small m) t in
          f (rw (← (at-placed m k (o.inside k in_part) e)) in_part)) ∙ sym (false-from (part (at_big m)) f)
    ]

    cell-same : (m : ℕ) → shown_cell blank there shown (at_small m) ≡ shown_cell blank part cells (at_big m)
    cell-same m = shown-same blank part there cells shown (at_big m) (at_small m) (member-same m)
        (λ t. ap (slice_index shown) (sym (placed-at m (o.inside (at_big m) t))) ∙ o.symbol (at_big m) (o.inside (at_big m) t))

    -- so the part has one board, made from either
    pub crop-part : cropped blank there (with_cells piece shown) ≡ cropped blank part (with_cells p cells)
    unfolding cropped
    crop-part =
        let rows = rows-moved.1 in
        let columns = columns-moved.1 in
        let all : map (λ m. shown_cell blank there shown (at_small m)) (counted 0 (small.rows * small.columns))
        ≡ map (λ m. shown_cell blank part cells (at_big m)) (counted 0 (big.rows * big.columns)) =
        map-agree (λ m. shown_cell blank there shown (at_small m)) (λ m. shown_cell blank part cells (at_big m))
        (counted 0 (small.rows * small.columns)) (λ m i. cell-same m)
        ∙ (λ i. map (λ m. shown_cell blank part cells (at_big m)) (counted 0 (rows i * columns i))) in
        λ i. record {
          rows = rows i;
          columns = columns i;
          symbols = p.symbols;
          cells = all i;
        }

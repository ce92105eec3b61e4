-- Cells directly below and beside each other.
use Rattle.std.proofs.lemmas.Bool.Decides.{nat_tests}
use Rattle.std.proofs.Common.{◌≡◌, ℕ, ◌+◌, ◌-◌, ◌<◌, ◌==◌, true, ap, sym, ◌∙◌, arith}
use Rattle.std.proofs.Math.Nat.{mod-lt}
use Rattle.std.proofs.lemmas.Bool.{eqb-true, eq-eqb}
use Rattle.cg_dyadic.proofs.Truth.{and-both, and-split}
use Rattle.cg_pieces.specs.Boxes.{cell_at, column_of, row_of}
use Rattle.cg_pieces.specs.Neighbours.{is_below, is_beside}
use Rattle.cg_pieces.proofs.Bounds.{cell-of, column-cell, row-cell}

pub below-is : (w k l : ℕ) → is_below w k l ≡ true → l ≡ k + w
below-is w k l h = grind (arith, nat_tests, and-split, eqb-true, cell-of)

pub beside-is : (w k l : ℕ) → is_beside w k l ≡ true → l ≡ k + 1
beside-is w k l h = grind (arith, nat_tests, and-split, eqb-true, cell-of)

-- a next cell in the row is there
pub beside-inside : (w k l : ℕ) → 0 < w → is_beside w k l ≡ true → column_of w k + 1 < w
beside-inside w k l wide h = grind (arith, nat_tests, and-split, eqb-true, mod-lt)

pub is-below : (w k : ℕ) → 0 < w → is_below w k (k + w) ≡ true
is-below w k wide = grind (arith, nat_tests, cell-of, mod-lt, and-both, eq-eqb, row-cell, column-cell)

pub is-beside : (w k : ℕ) → column_of w k + 1 < w → is_beside w k (k + 1) ≡ true
is-beside w k inside =
    let a = cell-of w k in
    let e : k + 1 ≡ cell_at w (row_of w k) (column_of w k + 1) = omega (arith, a) in
    and-both (row_of w k == row_of w (k + 1)) (column_of w k + 1 == column_of w (k + 1))
    (eq-eqb (row_of w k) (row_of w (k + 1)) (sym (ap (row_of w) e ∙ row-cell w (row_of w k) (column_of w k + 1) inside)))
    (eq-eqb (column_of w k + 1) (column_of w (k + 1))
    (sym (ap (column_of w) e ∙ column-cell w (row_of w k) (column_of w k + 1) inside)))

-- the second of two cells in a row is in no first column
pub second-column : (w k l : ℕ) → is_beside w k l ≡ true → column_of w l ≡ column_of w k + 1
second-column w k l h = grind (arith, nat_tests, and-split, eqb-true)

pub before-beside : (w k : ℕ) → 0 < w → ¬ (column_of w k ≡ 0) → is_beside w (k - 1) k ≡ true
before-beside w k wide some =
    let a = cell-of w k in
    let b = mod-lt k wide in
    let e : k - 1 ≡ cell_at w (row_of w k) (column_of w k - 1) = omega (arith, a, some) in
    let c : column_of w (k - 1) ≡ column_of w k - 1 =
    ap (column_of w) e ∙ column-cell w (row_of w k) (column_of w k - 1) (omega (arith, b)) in
    let f : (k - 1) + 1 ≡ k = omega (arith, a, some) in
    rw f at (is-beside w (k - 1) (omega (arith, b, c, some)))

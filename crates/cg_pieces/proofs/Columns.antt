-- The cells of one column in words, moved from column to column until one is in the set.
use Rattle.std.proofs.Common.{◌≡◌, ◌≢◌, ℕ, ◌+◌, ◌-◌, ◌%◌, ◌^◌, ◌<◌, ◌≤◌, ◌==◌, ◌&&◌, inl, inr, nat_lt, length, ap, sym, ◌∙◌, subst, arith, bit_and}
use Rattle.std.specs.Int.{bit_at}
use Rattle.std.specs.Int.Count.{count_trailing_zeros}
use Rattle.std.proofs.Math.Nat.{mod-lt}
use Rattle.std.proofs.lemmas.Bool.{eq-eqb, eqb-true, lt-ltb}
use Rattle.std.proofs.lemmas.Bool.Decides.{leb_tells, nat_tests}
use Rattle.std.proofs.lemmas.Nat.{and_le_l}
use Rattle.std.proofs.lemmas.Nat.Bits.{bit_at-zero}
use Rattle.cg_dyadic.proofs.Truth.{and-both, and-split}
use Rattle.cg_moves.specs.Grid.{Grid, IsGrid}
use Rattle.cg_moves.specs.Words.{Marks}
use Rattle.cg_moves.proofs.WordBits.{shifted_back, shifted_on, shifted_on_first}
use Rattle.cg_pieces.specs.Boxes.{cell_at, column_of, row_of}
use Rattle.cg_pieces.specs.Frames.{IsColumn, IsEdge}
use Rattle.cg_pieces.specs.Words.{IsSet}
use Rattle.cg_pieces.proofs.Bounds.{cell-of, column-cell}
use Rattle.cg_pieces.proofs.Frames.{few-columns, wide-grid}
use Rattle.cg_pieces.proofs.GrowingSets.{and-one, and-parts, bit-below, moved_back, moved_on}
use Rattle.cg_pieces.proofs.LastBits.{first-one}
use Rattle.cg_pieces.proofs.OpenWords.{marks-test, test-marks}

module _ (w size : ℕ) (few : w ≤ 64) (below : size ≤ 64) where
  first-column : (word : ℕ) → Marks word (λ i. nat_lt i size && (i % w == 0)) → IsColumn w size 0 word
  first-column word are = record {
    only = λ k t. eqb-true (k % w) 0 (and-split (nat_lt k size) (k % w == 0) (marks-test word (λ i. nat_lt i size && (i % w == 0)) are k t)).1;
    all = λ k h e. test-marks word (λ i. nat_lt i size && (i % w == 0)) are k
        (and-both (nat_lt k size) (k % w == 0) (lt-ltb k size h) (eq-eqb (k % w) 0 e));
  }

  -- so many columns on
  column-on : (column by word : ℕ) → IsColumn w size column word → column + by < w → IsColumn w size (column + by) (moved_on word by)
  column-on column by word is inside = record {
    only = λ k t. elim (leb_tells by k) [
      | inl h ↦
          let late = h.1 in
          let here = bit-below (moved_on word by) k (omega arith) t in
          let c = is.only (k - by) (sym (shifted_on word by k late here) ∙ t) in
          let a = cell-of w (k - by) in
          let e : k ≡ cell_at w (row_of w (k - by)) (column + by) = omega (arith, a, c, late) in
          ap (column_of w) e ∙ column-cell w (row_of w (k - by)) (column + by) inside
      | inr h ↦ let none = shifted_on_first word by k h.1 (omega (arith, inside, few)) in absurd (omega (arith, none, t))
    ];
    all = λ k h c.
        let a = cell-of w k in
        let e : k - by ≡ cell_at w (row_of w k) column = omega (arith, a, c) in
        shifted_on word by k (omega (arith, a, c)) (omega (arith, h, below))
        ∙ is.all (k - by) (omega (arith, h)) (ap (column_of w) e ∙ column-cell w (row_of w k) column (omega (arith, inside)));
  }

  -- the column before
  column-back : (column word : ℕ) → column_of w size ≡ 0 → IsColumn w size column word → 1 ≤ column → column < w
      → IsColumn w size (column - 1) (moved_back word 1)
  column-back column word whole is later inside = record {
    only = λ k t.
        let c = is.only (k + 1) (sym (shifted_back word 1 k) ∙ t) in
        let a = cell-of w (k + 1) in
        let e : k ≡ cell_at w (row_of w (k + 1)) (column - 1) = omega (arith, a, c, later) in
        ap (column_of w) e ∙ column-cell w (row_of w (k + 1)) (column - 1) (omega (arith, inside));
    all = λ k h c.
        let a = cell-of w k in
        let e : k + 1 ≡ cell_at w (row_of w k) column = omega (arith, a, c, later) in
        let d = ap (column_of w) e ∙ column-cell w (row_of w k) column inside in
        let n : ¬ (k + 1 ≡ size) = λ s. let z = ap (column_of w) s ∙ whole in omega (arith, z, d, later) in
        shifted_back word 1 k ∙ is.all (k + 1) (omega (arith, h, n)) d;
  }

-- the cells of this column, to which the columns of all cells of the set stand so
pub record IsReached (p : Grid) (set : ℕ) (stands : ℕ → ℕ → Type 0) (column word : ℕ) : Type 0 where
  pub inside : column < p.columns
  pub is : IsColumn p.columns (length p.cells) column word
  pub each : (k : ℕ) → bit_at set k ≡ 1 → stands column (column_of p.columns k)

module _ (p : Grid) (grid : IsGrid p) (set : ℕ) (some : IsSet p set) where
  -- there are none of the set in it
  not-here : (column word : ℕ) → IsColumn p.columns (length p.cells) column word → bit_and set word ≡ 0
      → (k : ℕ) → bit_at set k ≡ 1 → ¬ (column_of p.columns k ≡ column)
  not-here column word is none k t e =
      let one = and-one set word k t (is.all k (some.1.below k t) e) in
      let zero = ap (λ z. bit_at z k) none ∙ bit_at-zero k in
      omega (arith, one, zero)

  first-inside : column_of p.columns some.0 < p.columns
  first-inside = mod-lt some.0 (wide-grid p grid)

  -- ---- from the left

  pub from-left : (word : ℕ) → Marks word (λ i. nat_lt i (length p.cells) && (i % p.columns == 0))
      → IsReached p set (λ edge column. edge ≤ column) 0 word
  from-left word are = record {
    inside = wide-grid p grid;
    is = first-column p.columns (length p.cells) (few-columns p grid) grid.few word are;
    each = λ k t. omega arith;
  }

  pub left-more : (left word : ℕ) → IsReached p set (λ edge column. edge ≤ column) left word → bit_and set word ≡ 0
      → IsReached p set (λ edge column. edge ≤ column) (left + 1) (moved_on word 1)
  left-more left word old none =
      let far : (k : ℕ) → bit_at set k ≡ 1 → left + 1 ≤ column_of p.columns k = λ k t.
      (let a = old.each k t in let n = not-here left word old.is none k t in omega (arith, a, n)) in
      let inside : left + 1 < p.columns = (let a = far some.0 some.1.here in let b = first-inside in omega (arith, a, b)) in
      record {
        inside = inside;
        is = column-on p.columns (length p.cells) (few-columns p grid) grid.few left 1 word old.is inside;
        each = far;
      }

  -- ---- from the right

  pub from-right : (word right : ℕ) → Marks word (λ i. nat_lt i (length p.cells) && (i % p.columns == 0))
      → right ≡ p.columns - 1 → IsReached p set (λ edge column. column ≤ edge) right (moved_on word right)
  from-right word right are last =
      let wide = wide-grid p grid in
      let none : 0 + right ≡ right = omega arith in
      let inside : right < p.columns = omega (arith, wide, last) in
      record {
        inside = inside;
        is = subst (λ c. IsColumn p.columns (length p.cells) c (moved_on word right)) none
            (column-on p.columns (length p.cells) (few-columns p grid) grid.few 0 right word
            (first-column p.columns (length p.cells) (few-columns p grid) grid.few word are) (omega (arith, wide, last)));
        each = λ k t. let c = mod-lt k wide in omega (arith, c, last);
      }

  whole : column_of p.columns (length p.cells) ≡ 0
  whole = grind (arith, nat_tests, column-cell, wide-grid)

  pub right-later : (right word : ℕ) → IsReached p set (λ edge column. column ≤ edge) right word → bit_and set word ≡ 0 → 1 ≤ right
  right-later right word old none =
      let a = old.each some.0 some.1.here in
      let n = not-here right word old.is none some.0 some.1.here in
      omega (arith, a, n)

  pub right-less : (right word : ℕ) → IsReached p set (λ edge column. column ≤ edge) right word → bit_and set word ≡ 0
      → IsReached p set (λ edge column. column ≤ edge) (right - 1) (moved_back word 1)
  right-less right word old none =
      let later = right-later right word old none in
      record {
        inside = let i = old.inside in omega (arith, i);
        is = column-back p.columns (length p.cells) (few-columns p grid) grid.few right word whole old.is later old.inside;
        each = λ k t.
            let a = old.each k t in let n = not-here right word old.is none k t in omega (arith, a, n);
      }

  -- ---- a column with cells of the set

  pub edge-is : (stands : ℕ → ℕ → Type 0) (column word : ℕ) → IsReached p set stands column word → bit_and set word ≢ 0
      → set < 2 ^ 64 → IsEdge stands p.columns set column
  edge-is stands column word reached some_here fits =
      let both : ℕ = bit_and set word in
      let most = and_le_l set word in
      let k : ℕ = count_trailing_zeros 64 both in
      let bits = and-parts set word k (first-one both (omega (arith, some_here)) (omega (arith, most, fits))) in
      record {
        cell = k;
        in_set = bits.0;
        column = reached.is.only k bits.1;
        each = reached.each;
      }

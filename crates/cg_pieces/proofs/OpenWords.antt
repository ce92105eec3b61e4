-- The cells that form pieces, in a word.
use Rattle.std.proofs.lemmas.Bool.Decides.{nat_tests}
use Rattle.std.proofs.Common.{◌≡◌, ℕ, ◌%◌, ◌==◌, ◌&&◌, Bool, true, false, nat_lt, if◌then◌else◌, length, ap, sym, ◌∙◌, arith}
use Rattle.std.specs.Int.{bit_at}
use Rattle.std.proofs.lemmas.Bool.{eq-eqb, eqb-true, lt-ltb}
use Rattle.cg_dyadic.proofs.Truth.{and-both, and-split, false-from}
use Rattle.cg_moves.specs.Grid.{Grid, IsGrid}
use Rattle.cg_moves.specs.Words.{Marks}
use Rattle.cg_pieces.specs.declared.field.Field.{Field}
use Rattle.cg_pieces.specs.Neighbours.{IsNeighbours, Neighbours, is_piece_cell}
use Rattle.cg_pieces.specs.Words.{IsFieldOf}
use Rattle.cg_pieces.proofs.Frames.{few-columns, wide-grid}
use Rattle.cg_pieces.proofs.NeighbourSets.{piece-cell-below}

abbrev one : Bool → ℕ
one b = if b then 1 else 0

pub marks-test : (word : ℕ) (test : ℕ → Bool) → Marks word test → (k : ℕ) → bit_at word k ≡ 1 → test k ≡ true
marks-test word test are k t = grind (arith, nat_tests)

pub test-marks : (word : ℕ) (test : ℕ → Bool) → Marks word test → (k : ℕ) → test k ≡ true → bit_at word k ≡ 1
test-marks word test are k t = are k ∙ ap one t

pub unmarked : (word : ℕ) (test : ℕ → Bool) → Marks word test → (k : ℕ) → bit_at word k ≡ 0 → test k ≡ false
unmarked word test are k none = false-from (test k) (λ t. let one = test-marks word test are k t in omega (arith, one, none))

pub test-off : (word : ℕ) (test : ℕ → Bool) → Marks word test → (k : ℕ) → ¬ (test k ≡ true) → bit_at word k ≡ 0
test-off word test are k f = are k ∙ ap one (false-from (test k) f)

module _ (n : Neighbours) (laws : IsNeighbours n) (p : Grid) where
  pub field-is : (f : Field) → IsGrid p → f.columns ≡ p.columns
      → Marks f.first_column (λ i. nat_lt i (length p.cells) && (i % p.columns == 0)) → Marks f.cells (is_piece_cell n p)
      → IsFieldOf n p f
  field-is f grid columns first cells = record {
    field = record {
      wide = let w = wide-grid p grid in omega (arith, w, columns);
      few = let w = few-columns p grid in omega (arith, w, columns);
      starts = λ k t z.
          let below = piece-cell-below n laws p k (marks-test f.cells (is_piece_cell n p) cells k t) in
          test-marks f.first_column (λ i. nat_lt i (length p.cells) && (i % p.columns == 0)) first k
          (and-both (nat_lt k (length p.cells)) (k % p.columns == 0) (lt-ltb k (length p.cells) below)
          (eq-eqb (k % p.columns) 0 (ap (λ w. k % w) (sym columns) ∙ z)));
      others = λ k t some. test-off f.first_column (λ i. nat_lt i (length p.cells) && (i % p.columns == 0)) first k
          (λ b. some (ap (λ w. k % w) columns
          ∙ eqb-true (k % p.columns) 0 (and-split (nat_lt k (length p.cells)) (k % p.columns == 0) b).1));
    };
    columns = columns;
    cells = cells;
  }

-- Rows of cells in words, cut out.
use Rattle.std.proofs.Common.{◌≡◌, ℕ, ◌+◌, ◌-◌, ◌*◌, ◌<◌, ◌≤◌, ◌^◌, inl, inr, nat_lt, if◌then◌else◌, ap, sym, ◌∙◌, arith, bit_and, bit_or}
use Rattle.std.specs.Int.{bit_at}
use Rattle.std.proofs.Math.Nat.{mul-le-mul_left, mul-le-mul_right}
use Rattle.std.proofs.lemmas.Bool.{le-ltb, lt-ltb}
use Rattle.std.proofs.lemmas.Bool.Decides.{leb_tells, nat_tests}
use Rattle.std.proofs.lemmas.Nat.Bits.{bit_at-lt, bit_at-zero, bit_at_above, bit_at_and, bit_at_or}
use Rattle.cg_moves.specs.Words.{Marks}
use Rattle.cg_moves.proofs.WordBits.{shifted_back}
use Rattle.cg_pieces.specs.declared.frame.Frame.{Frame}
use Rattle.cg_pieces.specs.Boxes.{cell_at, column_of, row_of, unboxed}
use Rattle.cg_pieces.specs.Frames.{IsBoxIn, box_from}
use Rattle.cg_pieces.proofs.Bounds.{cell-of, column-cell, row-cell}
use Rattle.cg_pieces.proofs.GrowingSets.{moved_back}
use Rattle.cg_pieces.proofs.OpenWords.{test-marks}

-- a cell of a row is so many cells behind its first
row-cells : (width row k : ℕ) → row * width ≤ k → k ≡ cell_at width row (k - row * width)
row-cells width row k low = omega arith

-- ---- the rows of a box, one after another

module _ (word columns : ℕ) (f : Frame) where
  -- what the word of the first so many rows of the box has at this place
  abbrev pub cut : ℕ → ℕ → ℕ
  cut rows m = if nat_lt m (rows * f.columns) then bit_at word (unboxed (box_from f) columns m) else 0

  cut-inside : (rows m : ℕ) → m < rows * f.columns → cut rows m ≡ bit_at word (unboxed (box_from f) columns m)
  cut-inside rows m h =
      ap (λ t. if t then bit_at word (unboxed (box_from f) columns m) else 0) (lt-ltb m (rows * f.columns) h)

  cut-outside : (rows m : ℕ) → rows * f.columns ≤ m → cut rows m ≡ 0
  cut-outside rows m h =
      ap (λ t. if t then bit_at word (unboxed (box_from f) columns m) else 0) (le-ltb m (rows * f.columns) h)

  -- the word of a box from its first cell on, so many rows later
  abbrev pub IsLater : ℕ → ℕ → Type 0
  IsLater row rest = (i : ℕ) → bit_at rest i ≡ bit_at word ((i + (f.top * columns + f.left)) + row * columns)

  pub first-later : IsLater 0 (moved_back word (f.top * columns + f.left))
  first-later i =
      let e : i + (f.top * columns + f.left) ≡ (i + (f.top * columns + f.left)) + 0 * columns = omega arith in
      shifted_back word (f.top * columns + f.left) i ∙ ap (bit_at word) e

  pub later-row : (row rest : ℕ) → 1 ≤ row → IsLater (row - 1) rest → IsLater row (moved_back rest columns)
  later-row row rest some old i =
      let same : (row - 1) + 1 ≡ row = omega (arith, some) in
      let e : ((i + columns) + (f.top * columns + f.left)) + (row - 1) * columns
      ≡ (i + (f.top * columns + f.left)) + ((row - 1) + 1) * columns = omega arith in
      shifted_back rest columns i ∙ old (i + columns) ∙ ap (bit_at word) e
      ∙ ap (λ r. bit_at word ((i + (f.top * columns + f.left)) + r * columns)) same

  -- nothing is cut out of the word 0
  pub cut-zero : word ≡ 0 → (m : ℕ) → bit_at 0 m ≡ cut f.rows m
  cut-zero none m = grind (arith, nat_tests, leb_tells, bit_at-zero, cut-outside, cut-inside)

  module _ (inside : IsBoxIn columns (box_from f)) where
    pub few-cut : f.rows * f.columns ≤ 64
    few-cut = grind (arith, nat_tests, mul-le-mul_left)

    module _ (row found moved mask on : ℕ) (below : row < f.rows) (fits : on < 2 ^ 64)
        (found_is : (m : ℕ) → bit_at found m ≡ cut row m)
        (moved_is : IsLater row moved)
        (mask_is : Marks mask (λ i. nat_lt i f.columns))
        (on_first : (i : ℕ) → i < row * f.columns → bit_at on i ≡ 0)
        (on_others : (i : ℕ) → row * f.columns ≤ i → i < 64 → bit_at on i ≡ bit_at (bit_and moved mask) (i - row * f.columns))
      where
        in-row : (m : ℕ) → row * f.columns ≤ m → m < (row + 1) * f.columns → bit_at on m ≡ bit_at word (unboxed (box_from f) columns m)
        in-row m low high =
            let d : ℕ = m - row * f.columns in
            let few : d < f.columns = omega (arith, low, high) in
            let e = row-cells f.columns row m low in
            let r : row_of f.columns m ≡ row = ap (row_of f.columns) e ∙ row-cell f.columns row d few in
            let c : column_of f.columns m ≡ d = ap (column_of f.columns) e ∙ column-cell f.columns row d few in
            let place : (d + (f.top * columns + f.left)) + row * columns ≡ cell_at columns (f.top + row) (f.left + d) = omega arith in
            let all : (row + 1) * f.columns ≤ 64 = grind (arith, nat_tests, mul-le-mul_right, few-cut) in
            let one : bit_at mask d ≡ 1 = test-marks mask (λ i. nat_lt i f.columns) mask_is d (lt-ltb d f.columns few) in
            let both = bit_at_and moved mask d in
            let bit = bit_at-lt moved d in
            let is : bit_at (bit_and moved mask) d ≡ bit_at moved d = omega (arith, one, both, bit) in
            on_others m low (omega (arith, high, all)) ∙ is ∙ moved_is d ∙ ap (bit_at word) place
            ∙ ap (λ z. bit_at word (cell_at columns (f.top + z) (f.left + d))) (sym r)
            ∙ ap (λ z. bit_at word (cell_at columns (f.top + row_of f.columns m) (f.left + z))) (sym c)

        past-row : (m : ℕ) → (row + 1) * f.columns ≤ m → bit_at on m ≡ 0
        past-row m high = elim (leb_tells 64 m) [
          | inl h ↦ bit_at_above on 64 m fits h.1
          | inr h ↦
              let d : ℕ = m - row * f.columns in
              let past : f.columns ≤ d = omega (arith, high) in
              let none : bit_at mask d ≡ 0 = mask_is d ∙ ap (λ t. if t then 1 else 0) (le-ltb d f.columns past) in
              let both = bit_at_and moved mask d in
              let is : bit_at (bit_and moved mask) d ≡ 0 = omega (arith, none, both) in
              on_others m (omega (arith, high)) h.1 ∙ is
        ]

        pub cut-more : (m : ℕ) → bit_at (bit_or found on) m ≡ cut (row + 1) m
        cut-more m =
            let either = bit_at_or found on m in
            elim (leb_tells (row * f.columns) m) [
              | inl low ↦
                  let old : bit_at found m ≡ 0 = found_is m ∙ cut-outside row m low.1 in
                  let is : bit_at (bit_or found on) m ≡ bit_at on m = omega (arith, either, old) in
                  elim (leb_tells ((row + 1) * f.columns) m) [
                    | inl high ↦ is ∙ past-row m high.1 ∙ sym (cut-outside (row + 1) m high.1)
                    | inr high ↦ is ∙ in-row m low.1 high.1 ∙ sym (cut-inside (row + 1) m high.1)
                  ]
              | inr low ↦
                  let before = low.1 in
                  let none = on_first m before in
                  let is : bit_at (bit_or found on) m ≡ bit_at found m = omega (arith, either, none) in
                  is ∙ found_is m ∙ cut-inside row m before ∙ sym (cut-inside (row + 1) m (omega (arith, before)))
            ]

    -- the first row
    pub first-row : (rest mask : ℕ) → bit_and rest mask < 2 ^ 64 → IsLater 0 rest → Marks mask (λ i. nat_lt i f.columns)
        → (m : ℕ) → bit_at (bit_and rest mask) m ≡ cut 1 m
    first-row rest mask fits later mask_is m =
        let x : ℕ = bit_and rest mask in
        let either = bit_at_or 0 x m in
        let none = bit_at-zero m in
        let is : bit_at x m ≡ bit_at (bit_or 0 x) m = omega (arith, either, none) in
        let from : (i : ℕ) → i - 0 * f.columns ≡ i = λ i. omega arith in
        is ∙ cut-more 0 0 rest mask x inside.some_rows fits (λ i. bit_at-zero i ∙ sym (cut-outside 0 i (omega arith))) later
        mask_is (λ i l. absurd (omega (arith, l))) (λ i l h. ap (bit_at x) (sym (from i))) m

    -- ---- the shifts are by fewer than 64 places

    pub row-few : (row : ℕ) → row < f.rows → row * f.columns < 64
    row-few row below = grind (arith, nat_tests, mul-le-mul_right, few-cut)

    -- the rows of a box with all columns
    pub cut-whole : f.columns ≡ columns → (moved mask : ℕ) → ((i : ℕ) → bit_at moved i ≡ bit_at word (i + f.top * columns))
        → Marks mask (λ i. nat_lt i (f.rows * columns)) → (m : ℕ) → bit_at (bit_and moved mask) m ≡ cut f.rows m
    cut-whole whole moved mask moved_is mask_is m = grind (arith, nat_tests, bit_at_and, leb_tells, le-ltb, cut-outside, test-marks, lt-ltb, bit_at-lt, cell-of, cut-inside)

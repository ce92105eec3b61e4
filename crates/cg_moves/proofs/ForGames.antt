-- For whoever writes the rules of a game: members of lists of moves, and what a move does to a count of cells.
use Rattle.std.proofs.lemmas.Bool.Decides.{nat_tests}
use Rattle.std.proofs.Common.{◌≡◌, refl, ℕ, zero, suc, ◌+◌, ◌*◌, ◌<◌, ◌≤◌, ◌&&◌, Bool, true, false}
use Rattle.std.proofs.Common.{if◌then◌else◌, inl, List, [], ◌∷◌, get_or, length, ap, arith}
use Rattle.std.specs.Prelude.{count_by, slice_set}
use Rattle.std.specs.List.{flat_map}
use Rattle.std.specs.Str.{bytes_eq}
use Rattle.std.proofs.lemmas.Bool.{and_from, and_parts, eqb-true, eq-eqb, lt-ltb, ltb-true}
use Rattle.std.proofs.lemmas.List.Sums.{sum_by-cons}
use Rattle.cg_moves.specs.Grid.{Grid, is_in_rows, with_cells}
use Rattle.cg_moves.specs.Rising.{counted, rising}
use Rattle.cg_moves.specs.Rules.{In}
use Rattle.cg_moves.proofs.Counted.{counted-below, in_counted}
use Rattle.cg_moves.proofs.Members.{in-flat_map, in_flat_mapped, in_one}
use Rattle.cg_moves.proofs.RisingLemmas.{in-rising, rising-in}

-- ---- moves that are listed cell by cell

-- a choice that holds one thing or none
pub in-choice : {X : Type 0} (b : Bool) (x y : X) → In x (if b then y ∷ [] else []) → (b ≡ true) × (x ≡ y)
in-choice true x y m = (refl, in_one x y m)
in-choice false x y m = absurd m

pub choice-in : {X : Type 0} (b : Bool) (x : X) → b ≡ true → In x (if b then x ∷ [] else [])
choice-in {X} b x e = rw e (inl refl)

module _ (at : ℕ → List (List ℕ)) (n : ℕ) (cells : List ℕ) where
  -- each move listed is one at some cell, and each move at a cell is listed
  pub listed-at : In cells (rising (flat_map at (counted 0 n))) → (k : ℕ) × (k < n) × In cells (at k)
  listed-at m =
      let (k, i, o) = in-flat_map at cells (counted 0 n) (rising-in _ cells m) in
      let below = counted-below 0 n k i in
      (k, omega (arith, below), o)

  pub at-listed : (k : ℕ) → k < n → In cells (at k) → In cells (rising (flat_map at (counted 0 n)))
  at-listed k below m =
      in-rising _ cells (in_flat_mapped at cells k (counted 0 n) (in_counted 0 n k (omega arith) (omega (arith, below))) m)

-- where there is one move at each cell that passes a test
pub listed-where : (test : ℕ → Bool) (after : ℕ → List ℕ) (n : ℕ) (cells : List ℕ)
    → In cells (rising (flat_map (λ k. if test k then after k ∷ [] else []) (counted 0 n)))
    → (k : ℕ) × (k < n) × (test k ≡ true) × (cells ≡ after k)
listed-where test after n cells m =
    let (k, below, o) = listed-at (λ k. if test k then after k ∷ [] else []) n cells m in
    let h = in-choice (test k) cells (after k) o in
    (k, below, h.0, h.1)

-- ---- the number of cells that pass a test

abbrev pub one_if : Bool → ℕ
one_if b = if b then 1 else 0

module _ (test : ℕ → Bool) where
  pub count-cons : (c : ℕ) (cells : List ℕ) → count_by test (c ∷ cells) ≡ one_if (test c) + count_by test cells
  count-cons c cells = sum_by-cons (λ (x : ℕ). one_if (test x)) c cells

  -- a cell that is changed counts by what stood there and what stands there; past the last cell d is read
  pub count-set : (d : ℕ) (cells : List ℕ) (i v : ℕ) → i < length cells
      → count_by test (slice_set cells i v) + one_if (test (get_or cells i d)) ≡ count_by test cells + one_if (test v)
  count-set d [] i v h = absurd (omega arith)
  count-set d (c ∷ cells) zero v h = let a = count-cons c cells in let b = count-cons v cells in omega (arith, a, b)
  count-set d (c ∷ cells) (suc i) v h = grind (arith, nat_tests, count-cons, count-set d cells i v)

  pub inside : (d : ℕ) (cells : List ℕ) (i : ℕ) → test d ≡ false → test (get_or cells i d) ≡ true → i < length cells
  inside d [] zero none some = absurd (cc)
  inside d [] (suc i) none some = absurd (cc)
  inside d (c ∷ cells) zero none some = omega arith
  inside d (c ∷ cells) (suc i) none some = let h = inside d cells i none some in omega (arith, h)

  -- setting a cell that passes to what doesn't lowers the count
  pub set-lowers : (d : ℕ) (cells : List ℕ) (i v : ℕ) → test d ≡ false → test v ≡ false → test (get_or cells i d) ≡ true
      → count_by test (slice_set cells i v) < count_by test cells
  set-lowers d cells i v none gone some =
      let e = count-set d cells i v (inside d cells i none some) in
      let a : one_if (test (get_or cells i d)) ≡ 1 = ap one_if some in
      let b : one_if (test v) ≡ 0 = ap one_if gone in
      omega (arith, e, a, b)

  -- and setting a cell to what passes only if the cell did never raises it
  pub set-least : (d : ℕ) (cells : List ℕ) (i v : ℕ) → one_if (test v) ≤ one_if (test (get_or cells i d))
      → count_by test (slice_set cells i v) ≤ count_by test cells
  set-least d [] i v less = omega arith
  set-least d (c ∷ cells) zero v less = let a = count-cons c cells in let b = count-cons v cells in omega (arith, a, b, less)
  set-least d (c ∷ cells) (suc i) v less = grind (arith, nat_tests, count-cons, set-least d cells i v less)

-- ---- boards in rows and columns of these symbols

abbrev pub is_board_of : List ℕ → Grid → Bool
is_board_of symbols p = is_in_rows p && bytes_eq p.symbols symbols

pub board-wide : (symbols : List ℕ) (p : Grid) → is_board_of symbols p ≡ true → 0 < p.columns
board-wide symbols p has = grind (arith, nat_tests, and_parts, ltb-true)

-- a move that leaves as many cells leads to such a board
pub board-stays : (symbols : List ℕ) (p : Grid) (cells : List ℕ) → is_board_of symbols p ≡ true → length cells ≡ length p.cells
    → is_board_of symbols (with_cells p cells) ≡ true
board-stays symbols p cells has long = grind (arith, nat_tests, and_parts, and_from, eq-eqb, eqb-true)

-- a board in rows and columns with the symbols of such a board is one
pub board-like : (symbols : List ℕ) (p q : Grid) → is_board_of symbols p ≡ true → q.symbols ≡ p.symbols → 0 < q.columns
    → length q.cells ≡ q.rows * q.columns → is_board_of symbols q ≡ true
board-like symbols p q has same wide size =
    and_from _ _ (and_from _ _ (lt-ltb 0 q.columns wide) (eq-eqb (length q.cells) (q.rows * q.columns) size))
    (rw same (and_parts (is_in_rows p) (bytes_eq p.symbols symbols) has).1)

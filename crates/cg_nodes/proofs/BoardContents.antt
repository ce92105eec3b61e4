-- The test of a board's contents holds exactly of what is written.
use Rattle.std.proofs.Common.{◌≡◌, refl, ℕ, zero, suc, ◌+◌, ◌-◌, ◌*◌, ◌/◌, ◌%◌, ◌<◌, ◌≤◌, ◌==◌, ◌&&◌, ◌↔◌, ◌⊎◌, inl, inr, Bool, true}
use Rattle.std.proofs.Common.{false, if◌then◌else◌, min, nat_lt, List, [], ◌∷◌, ◌++◌, length, length-append, Some, arith, ap, sym, ◌∙◌}
use Rattle.std.proofs.lemmas.Bool.Decides.{eqb_tells, nat_tests}
use Rattle.cg_cells.proofs.Layouts.{both, both_back, lt_back, lt_true}
use Rattle.cg_nodes.specs.Boards.{AreBelow, AreWritten, IsBoard, are_contents, are_of_board, are_symbols, content_of, symbols}
use Rattle.cg_nodes.specs.Inverse.{board_if_back}
use Rattle.cg_nodes.specs.Meant.{Meant, board}
use Rattle.cg_nodes.specs.Spelled.{board_if, board_of}

same_true : (a b : ℕ) → a ≡ b → (a == b) ≡ true
same_true a b h = grind (arith, nat_tests)

same_back : (a b : ℕ) → (a == b) ≡ true → a ≡ b
same_back a b h = grind (arith, nat_tests)

-- ---- one content

record IsContent (count size content : ℕ) : Type 0 where
  cells : List ℕ
  as_many : length cells ≡ size
  symbols_only : AreBelow count cells
  is : content ≡ content_of cells

symbols_cells : (size count content : ℕ) → are_symbols size count content ≡ true → IsContent count size content
symbols_cells zero count content e = record { cells = []; as_many = refl; symbols_only = tt; is = same_back content 0 e }
symbols_cells (suc size) count content e =
    let (first, others) = both_back _ _ e in
    let r = symbols_cells size count (content / 4) others in
    let n = r.as_many in
    let c = r.is in
    record {
      cells = content % 4 ∷ r.cells;
      as_many = omega arith;
      symbols_only = (lt_back (content % 4) count first, r.symbols_only);
      is = omega arith;
    }

cells_symbols : (cells : List ℕ) (size count : ℕ) → count ≤ 4 → length cells ≡ size → AreBelow count cells
    → are_symbols size count (content_of cells) ≡ true
cells_symbols [] zero count few e below = refl
cells_symbols [] (suc size) count few e below = absurd (omega arith)
cells_symbols (cell ∷ cells) zero count few e below = absurd (omega arith)
cells_symbols (cell ∷ cells) (suc size) count few e below =
    let lt = below.0 in
    let first : (cell + 4 * content_of cells) % 4 ≡ cell = omega arith in
    let rest : (cell + 4 * content_of cells) / 4 ≡ content_of cells = omega arith in
    both _ _ (ap (λ z. nat_lt z count) first ∙ lt_true cell count lt)
    (ap (are_symbols size count) rest ∙ cells_symbols cells size count few (omega arith) below.1)

below-append : (count : ℕ) (cells others : List ℕ) → AreBelow count cells → AreBelow count others
    → AreBelow count (cells ++ others)
below-append count [] others a b = b
below-append count (cell ∷ cells) others a b = (a.0, below-append count cells others a.1 b)

below-both : (count : ℕ) (cells others : List ℕ) → AreBelow count (cells ++ others) → AreBelow count cells × AreBelow count others
below-both count [] others a = (tt, a)
below-both count (cell ∷ cells) others a = let (b, c) = below-both count cells others a.1 in ((a.0, b), c)

-- ---- all contents

length-none : (xs : List ℕ) → length xs ≡ 0 → xs ≡ []
length-none [] e = refl
length-none (x ∷ xs) e = absurd (omega arith)

-- so many cells are in the first content, and none are left but where these are 16
abbrev IsCut : List ℕ → List ℕ → Type 0
IsCut front others = (length front ≡ 16) ⊎ ((others ≡ []) × (0 < length front) × (length front < 16))

cut : (size : ℕ) (front others : List ℕ) → 0 < size → length front ≡ min 16 size → length others ≡ size - 16 → IsCut front others
cut size front others some f o = elim (eqb_tells (length front) 16) [
  | inl s ↦ inl s.1
  | inr s ↦ (let d : ¬ (length front ≡ 16) = s.1 in inr (length-none others (omega arith), omega arith, omega arith))
]

sizes : (size : ℕ) (front others : List ℕ) → size ≡ length front + length others → IsCut front others
    → (0 < size) × (length front ≡ min 16 size) × (length others ≡ size - 16)
sizes size front others n (inl full) = (omega arith, omega arith, omega arith)
sizes size front others n (inr w) =
    let e = ap length w.0 in let some = w.1 in let few = w.2 in (omega arith, omega arith, omega arith)

contents_board : (count size : ℕ) (contents : List ℕ) → are_contents count size contents ≡ true
    → IsBoard count size contents
contents_board count size [] e = record { cells = []; as_many = sym (same_back size 0 e); symbols_only = tt; written = refl }
contents_board count size (content ∷ rest) e =
    let (x, last) = both_back _ _ e in
    let (some, here) = both_back _ _ x in
    let r = symbols_cells (min 16 size) count content here in
    let others = contents_board count (size - 16) rest last in
    let m = length-append r.cells others.cells in
    let n = r.as_many in
    let k = others.as_many in
    record {
      cells = r.cells ++ others.cells;
      as_many = omega arith;
      symbols_only = below-append count r.cells others.cells r.symbols_only others.symbols_only;
      written = (r.cells, others.cells, refl, cut size r.cells others.cells (lt_back 0 size some) n k, r.is, others.written);
    }

written_contents : (count size : ℕ) (cells contents : List ℕ) → count ≤ 4 → length cells ≡ size
    → AreBelow count cells → AreWritten cells contents → are_contents count size contents ≡ true
written_contents count size cells [] few n below w = let e = ap length w in same_true size 0 (omega arith)
written_contents count size cells (content ∷ rest) few n below (front, others, split, way, is, later) =
    let (first, left) = below-both count front others (rw split at below) in
    let a = ap length split in
    let b = length-append front others in
    let (some, here, last) = sizes size front others (omega arith) way in
    both _ _ (both _ _ (lt_true 0 size some)
    (ap (are_symbols (min 16 size) count) is ∙ cells_symbols front (min 16 size) count few here first))
    (written_contents count (size - 16) others rest few last left later)

-- the law on the contents alone
pub contents-written : (count size : ℕ) (contents : List ℕ) → count ≤ 4
    → (are_contents count size contents ≡ true) ↔ IsBoard count size contents
contents-written count size contents few = (
  contents_board count size contents,
  λ b. written_contents count size b.cells contents few b.as_many b.symbols_only b.written,
)

-- ---- the key of a board

pub symbols-few : (number : ℕ) → symbols number ≤ 4
symbols-few number = few (number == 1) (number == 2) (number == 3) (number == 4)
  where
    few : (a b c d : Bool) → (if a then 2 else if b then 3 else if c then 4 else if d then 3 else 0) ≤ 4
    few true b c d = omega arith
    few false true c d = omega arith
    few false false true d = omega arith
    few false false false true = omega arith
    few false false false false = omega arith

-- a game has symbols exactly where its number is one of the four
symbols-some : (number : ℕ) → 1 ≤ symbols number → (1 ≤ number) × (number ≤ 4)
symbols-some number some = grind (arith, nat_tests)

of_board-is : (number rows columns : ℕ) (contents : List ℕ) → are_of_board number rows columns contents ≡ true
    → (1 ≤ rows * columns) × (rows * columns ≤ 64) × (are_contents (symbols number) (rows * columns) contents ≡ true)
of_board-is number rows columns contents e =
    let (size, written) = both_back _ _ e in
    let (some, few) = both_back _ _ size in
    let b = lt_back (rows * columns) 65 few in
    (lt_back 0 (rows * columns) some, omega arith, written)

-- what the claim of a board's key needs
pub is-of_board : (number rows columns : ℕ) (contents : List ℕ) → 1 ≤ rows * columns → rows * columns ≤ 64
    → are_contents (symbols number) (rows * columns) contents ≡ true → are_of_board number rows columns contents ≡ true
is-of_board number rows columns contents some few written =
    both _ _ (both _ _ (lt_true 0 (rows * columns) some) (lt_true (rows * columns) 65 (omega arith))) written

cells-some : (count size : ℕ) (cells : List ℕ) → 1 ≤ size → length cells ≡ size → AreBelow count cells → 1 ≤ count
cells-some count size [] some e below = absurd (omega arith)
cells-some count size (cell ∷ cells) some e below = let b = below.0 in omega arith

-- but for the last, each content has 16 cells
contents-few : (count size : ℕ) (contents : List ℕ) → are_contents count size contents ≡ true → 16 * length contents < size + 16
contents-few count size [] e = omega arith
contents-few count size (content ∷ rest) e =
    let (x, last) = both_back _ _ e in
    let some = lt_back 0 size (both_back _ _ x).0 in
    let r = contents-few count (size - 16) rest last in
    omega arith

pub spelled-board : (number rows columns : ℕ) (contents : List ℕ)
    → (board_of number rows columns (Some contents) ≡ Some (board number rows columns contents))
    ↔ ((1 ≤ rows * columns) × (rows * columns ≤ 64) × IsBoard (symbols number) (rows * columns) contents)
spelled-board number rows columns contents = (
  λ e.
      let (same, is) = board_if_back number rows columns contents (are_of_board number rows columns contents) _ e in
      let (some, few, written) = of_board-is number rows columns contents is in
      (some, few, (contents-written (symbols number) (rows * columns) contents (symbols-few number)).0 written),
  λ h. ap (board_if number rows columns contents) (is-of_board number rows columns contents h.0 h.1
      ((contents-written (symbols number) (rows * columns) contents (symbols-few number)).1 h.2)),
)

pub board-only : (number rows columns : ℕ) (contents : List ℕ) (t : Meant)
    → board_of number rows columns (Some contents) ≡ Some t
    → (t ≡ board number rows columns contents) × (1 ≤ number) × (number ≤ 4) × (length contents ≤ 4)
board-only number rows columns contents t e =
    let (same, is) = board_if_back number rows columns contents (are_of_board number rows columns contents) t e in
    let (some, few, written) = of_board-is number rows columns contents is in
    let b = (contents-written (symbols number) (rows * columns) contents (symbols-few number)).0 written in
    let c = cells-some (symbols number) (rows * columns) b.cells some b.as_many b.symbols_only in
    let (first, last) = symbols-some number c in
    let n = contents-few (symbols number) (rows * columns) contents written in
    (same, first, last, omega arith)

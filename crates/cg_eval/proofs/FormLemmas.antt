-- A board is read back from the contents in which it is written.
use Rattle.std.proofs.Common.{◌≡◌, refl, ℕ, zero, suc, ◌+◌, ◌*◌, ◌/◌, ◌%◌, ◌≤◌, inl, inr, true, false}
use Rattle.std.proofs.Common.{Bool, List, [], ◌∷◌, ◌++◌, length, map, take, ap, sym, ◌∙◌, arith}
use Rattle.std.specs.Prelude.{◌==◌, if◌then◌else◌, bytes_eq, slice_index, codes}
use Rattle.std.proofs.Math.Seq.{take-append-add}
use Rattle.std.proofs.lemmas.Bool.{and_parts}
use Rattle.std.proofs.lemmas.List.{append-nil, length-append, length-map, take-append-le, take_all}
use Rattle.std.specs.List.{flat_map}
use Rattle.cg_nodes.specs.Boards.{AreBelow, AreWritten, content_of, symbols}
use Rattle.cg_moves.specs.Grid.{AreCells, Grid, IsGrid}
use Rattle.cg_moves.specs.PlaneBits.{index_of}
use Rattle.cg_moves.specs.Raw.{raw}
use Rattle.cg_moves.proofs.PlaneLemmas.{index-reads}
use Rattle.cg_moves.proofs.Same.{bytes_eq-back}
use Rattle.cg_domineering.specs.Moves.{domineering}
use Rattle.cg_clobber.specs.Moves.{clobber}
use Rattle.cg_amazons.specs.Amazons.{amazons}
use Rattle.cg_strip.specs.Toads.{toads_game}
use Rattle.cg_moves.specs.Grid.{is_in_rows}
use Rattle.cg_moves.specs.Rules.{GameRules}
use Rattle.cg_eval.specs.Forms.{board_form, board_in, fields, symbol_row}
use Rattle.cg_values.specs.Notes.{IsNumbered, places}
use Rattle.cg_nodes.proofs.BoardContents.{symbols-few}
use Rattle.cg_values.proofs.PlaceLemmas.{places-below}

-- the fields of a content begin with the cells that it was made of
fields-content : (n : ℕ) (cells : List ℕ) → length cells ≤ n → AreBelow 4 cells
    → take (length cells) (fields n (content_of cells)) ≡ cells
fields-content n [] few b = refl
fields-content zero (c ∷ cells) few b = absurd (omega arith)
fields-content (suc n) (c ∷ cells) few b =
    let h = b.0 in
    let low : (c + 4 * content_of cells) % 4 ≡ c = omega arith in
    let high : (c + 4 * content_of cells) / 4 ≡ content_of cells = omega arith in
    ap (λ z. z ∷ take (length cells) (fields n ((c + 4 * content_of cells) / 4))) low
    ∙ ap (λ z. c ∷ take (length cells) (fields n z)) high
    ∙ ap (λ z. c ∷ z) (fields-content n cells (omega arith) b.1)

length-fields : (n content : ℕ) → length (fields n content) ≡ n
length-fields zero content = refl
length-fields (suc n) content = let e = length-fields n (content / 4) in omega arith

below-front : (xs ys : List ℕ) → AreBelow 4 (xs ++ ys) → AreBelow 4 xs
below-front [] ys b = tt
below-front (x ∷ xs) ys b = (b.0, below-front xs ys b.1)

below-back : (xs ys : List ℕ) → AreBelow 4 (xs ++ ys) → AreBelow 4 ys
below-back [] ys b = b
below-back (x ∷ xs) ys b = below-back xs ys b.1

-- the cells are read back
pub read-back : (contents cells : List ℕ) → AreWritten cells contents → AreBelow 4 cells
    → take (length cells) (flat_map (fields 16) contents) ≡ cells
read-back [] cells w b = let e = ap length w in
    ap (λ z. take (length z) []) w ∙ sym w
read-back (content ∷ rest) cells (front, others, e, which, is, w) b =
    let both = rw e at b in
    let bf = below-front front others both in
    let bo = below-back front others both in
    let more = flat_map (fields 16) rest in
    let n = ap length e ∙ length-append front others in
    let f = length-fields 16 (content_of front) in
    ap (λ z. take (length z) (fields 16 content ++ more)) e
    ∙ ap (λ z. take (length (front ++ others)) (fields 16 z ++ more)) is
    ∙ elim which [
      | inl full ↦ (
          let whole : fields 16 (content_of front) ≡ front = (let t = take_all 16 (fields 16 (content_of front)) (omega (arith, f)) in
          sym t ∙ ap (λ k. take k (fields 16 (content_of front))) (sym full)
          ∙ fields-content 16 front (omega arith) bf) in
          ap (λ z. take (length (front ++ others)) (z ++ more)) whole
          ∙ ap (λ k. take k (front ++ more)) (length-append front others)
          ∙ take-append-add front more (length others)
          ∙ ap (λ z. front ++ z) (read-back rest others w bo))
      | inr (last, some, few) ↦ (
          let k : length (front ++ others) ≡ length front = (let a = length-append front others in let l = ap length last
          in omega arith) in
          ap (λ m. take m (fields 16 (content_of front) ++ more)) k
          ∙ take-append-le (length front) (fields 16 (content_of front)) more (omega arith)
          ∙ fields-content 16 front (omega arith) bf ∙ sym (ap (λ z. front ++ z) last ∙ append-nil front))
    ] ∙ sym e

symbols-back : (symbols cells : List ℕ) → AreCells symbols cells
    → map (slice_index symbols) (places symbols cells) ≡ cells
symbols-back symbols [] h = refl
symbols-back symbols (c ∷ cells) h =
    ap (λ z. z ∷ map (slice_index symbols) (places symbols cells)) (index-reads symbols c (h 0 (omega arith)))
    ∙ ap (λ z. c ∷ z) (symbols-back symbols cells (λ k l. h (suc k) (omega arith)))

row-length : (n : ℕ) → length (symbol_row n) ≡ symbols n
row-length n = row-count (n == 1) (n == 2) (n == 3) (n == 4)
  where
    row-count : (a b c d : Bool) → length (if a then codes ".#" else if b then codes ".xo" else if c then codes ".xo#"
        else if d then codes ".TF" else []) ≡ (if a then 2 else if b then 3 else if c then 4 else if d then 3 else 0)
    row-count true b c d = refl
    row-count false true c d = refl
    row-count false false true d = refl
    row-count false false false true = refl
    row-count false false false false = refl

-- and so is the board
pub board-back : (n : ℕ) (p : Grid) (contents : List ℕ) → IsGrid p → p.symbols ≡ symbol_row n
    → AreWritten (places p.symbols p.cells) contents → board_in n p.rows p.columns contents ≡ p
board-back n p contents g row w =
    let few : length p.symbols ≤ 4 = (let a = ap length row in let b = row-length n in let c = symbols-few n in omega arith) in
    let below = places-below 4 p.symbols p.cells few g.cells in
    let size : p.rows * p.columns ≡ length (places p.symbols p.cells) = sym g.size ∙ sym (length-map p.cells (index_of p.symbols)) in
    let cells : map (slice_index (symbol_row n)) (take (p.rows * p.columns) (flat_map (fields 16) contents)) ≡ p.cells =
    ap (λ k. map (slice_index (symbol_row n)) (take k (flat_map (fields 16) contents))) size
    ∙ ap (map (slice_index (symbol_row n))) (read-back contents (places p.symbols p.cells) w below)
    ∙ ap (λ s. map (slice_index s) (places p.symbols p.cells)) (sym row) ∙ symbols-back p.symbols p.cells g.cells in
    λ i. record { rows = p.rows; columns = p.columns; symbols = (sym row) i; cells = cells i }

-- a game whose boards have its number's symbols, where the form of its board cells is the tree of the board that is written
numbered : (r : GameRules) → 1 ≤ r.number → r.number ≤ 4
    → ((p : Grid) → r.has p ≡ true → bytes_eq p.symbols (symbol_row r.number) ≡ true)
    → ((rows columns : ℕ) (contents : List ℕ)
    → board_form r.number rows columns contents ≡ raw r (board_in r.number rows columns contents))
    → IsNumbered board_form r
numbered r some four row form = record {
  some = some;
  four = four;
  as_many = λ p g has. ap length (bytes_eq-back p.symbols (symbol_row r.number) (row p has)) ∙ row-length r.number;
  forms = λ p g has contents w. form p.rows p.columns contents ∙ ap (raw r) (board-back r.number p contents g
      (bytes_eq-back p.symbols (symbol_row r.number) (row p has)) w);
}

pub domineering-numbered : IsNumbered board_form domineering
domineering-numbered = numbered domineering (omega arith) (omega arith)
    (λ p has. (and_parts (is_in_rows p) (bytes_eq p.symbols (codes ".#")) has).1) (λ rows columns contents. refl)

pub clobber-numbered : IsNumbered board_form clobber
clobber-numbered = numbered clobber (omega arith) (omega arith)
    (λ p has. (and_parts (is_in_rows p) (bytes_eq p.symbols (codes ".xo")) has).1) (λ rows columns contents. refl)

pub amazons-numbered : IsNumbered board_form amazons
amazons-numbered = numbered amazons (omega arith) (omega arith) (λ p has. has) (λ rows columns contents. refl)

pub toads-numbered : IsNumbered board_form toads_game
toads-numbered = numbered toads_game (omega arith) (omega arith)
    (λ p has. (and_parts (p.rows == 1) (bytes_eq p.symbols (codes ".TF")) has).1) (λ rows columns contents. refl)

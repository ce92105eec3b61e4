-- Texts, cut at bars.
use Rattle.std.proofs.Common.{◌≡◌, refl, ℕ, zero, suc, ◌+◌, ◌-◌, ◌*◌, ◌<◌, ◌≤◌, ◌==◌, ◌||◌, ◌&&◌, not, Bool, true, false, if◌then◌else◌, ◌⊎◌, inl, inr}
use Rattle.std.proofs.Common.{Option, Some, None, List, [], ◌∷◌, ◌++◌, append_assoc, length, length-append, take, drop, get_or, ap, sym, ◌∙◌, arith, ◌/◌}
use Rattle.std.specs.List.{list_any}
use Rattle.std.specs.Prelude.{Contains, position, slice_index}
use Rattle.std.proofs.Math.Nat.{mul-le-mul_left}
use Rattle.std.proofs.lemmas.Bool.Decides.{eqb_tells, leb_tells, nat_tests}
use Rattle.std.proofs.lemmas.List.{append-nil, length-take-le}
use Rattle.cg_moves.specs.Texts.{bar, cells_of, cut, first_row, in_front, is_foreign, ragged, rows_of}
use Rattle.cg_moves.specs.Grid.{AreCells}
use Rattle.cg_moves.specs.Rules.{In}
use Rattle.cg_moves.proofs.Members.{carry}
use Rattle.std.proofs.lemmas.Bool.{lt-ltb}
use Rattle.std.proofs.lemmas.List.Sums.{fails_before_first}
use Rattle.std.proofs.lemmas.Nat.{div-mul-add}

-- a text is cut at a bar
pub cut-bar : (c : ℕ) (cs : List ℕ) → c ≡ bar → cut (c ∷ cs) ≡ [] ∷ cut cs
cut-bar c cs e = grind (arith, nat_tests, eqb_tells)

pub cut-front : (c : ℕ) (cs : List ℕ) → (c ≡ bar → ⊥) → cut (c ∷ cs) ≡ in_front c (cut cs)
cut-front c cs n = grind (arith, nat_tests, eqb_tells)

abbrev pub rows_behind : List (List ℕ) → List (List ℕ)
rows_behind [] = []
rows_behind (row ∷ rows) = rows

front-cells : (c : ℕ) (rows : List (List ℕ)) → cells_of (in_front c rows) ≡ c ∷ cells_of rows
front-cells c [] = refl
front-cells c (row ∷ rows) = refl

front-rows : (c : ℕ) (rows : List (List ℕ)) → 1 ≤ length rows → length (in_front c rows) ≡ length rows
front-rows c [] h = absurd (omega arith)
front-rows c (row ∷ rows) h = refl

pub some-row : (text : List ℕ) → 1 ≤ length (cut text)
some-row [] = omega arith
some-row (c ∷ cs) = grind (arith, nat_tests, eqb_tells, cut-bar, cut-front, front-rows, some-row cs)

pub drop-read : (xs : List ℕ) (i : ℕ) → i < length xs → drop i xs ≡ get_or xs i 0 ∷ drop (suc i) xs
drop-read [] i l = absurd (omega arith)
drop-read (x ∷ xs) zero l = refl
drop-read (x ∷ xs) (suc i) l = drop-read xs i (omega arith)

drop-next : (xs : List ℕ) (i c : ℕ) → i < length xs → c ≡ get_or xs i 0 → drop i xs ≡ c ∷ drop (i + 1) xs
drop-next xs i c l e = let s : i + 1 ≡ suc i = omega arith in
    drop-read xs i l ∙ ap (λ z. z ∷ drop (suc i) xs) (sym e) ∙ ap (λ n. c ∷ drop n xs) (sym s)

-- ---- a text from a place on

module _ (text : List ℕ) (i c : ℕ) (within : i < length text) (read : c ≡ get_or text i 0) where
  cells-more : (c ≡ bar → ⊥) → cells_of (cut (drop i text)) ≡ c ∷ cells_of (cut (drop (i + 1) text))
  cells-more n = ap (λ z. cells_of (cut z)) (drop-next text i c within read) ∙ ap cells_of (cut-front c (drop (i + 1) text)
      n) ∙ front-cells c (cut (drop (i + 1) text))

  -- one cell more
  pub cell-put : (one_row : Bool) (all cells more : List ℕ) → all ≡ cells ++ cells_of (rows_of one_row (drop i text))
      → more ≡ cells ++ (c ∷ []) → (one_row ≡ true) ⊎ (c ≡ bar → ⊥)
      → all ≡ more ++ cells_of (rows_of one_row (drop (i + 1) text))
  cell-put true all cells more e f which = e ∙ ap (λ z. cells ++ (z ++ [])) (drop-next text i c within read)
      ∙ sym (append_assoc cells (c ∷ []) (drop (i + 1) text ++ [])) ∙ ap (λ z. z ++ (drop (i + 1) text ++ [])) (sym f)
  cell-put false all cells more e f (inl no_row) = grind (arith, nat_tests)
  cell-put false all cells more e f (inr n) = e ∙ ap (λ z. cells ++ z) (cells-more n)
      ∙ sym (append_assoc cells (c ∷ []) (cells_of (cut (drop (i + 1) text))))
      ∙ ap (λ z. z ++ cells_of (cut (drop (i + 1) text))) (sym f)

-- ---- the cells, put into an array

pub which_cell : (one_row : Bool) (c : ℕ) → (one_row || not (c == bar)) ≡ true → (one_row ≡ true) ⊎ (c ≡ bar → ⊥)
which_cell true c e = inl refl
which_cell false c e = grind (arith, nat_tests, eqb_tells)

-- there is room where a cell more is among few
pub room : (all cells rest : List ℕ) (n c : ℕ) → length all ≤ 64 → n ≤ length cells → all ≡ (take n cells ++ (c ∷ [])) ++ rest → n < 64
room all cells rest n c few inside e =
    let a = ap length e ∙ length-append (take n cells ++ (c ∷ [])) rest in
    let b = length-append (take n cells) (c ∷ []) in
    let t = length-take-le n cells inside in
    omega arith

pub taken : (n : ℕ) (all cells : List ℕ) → n ≡ length cells → take (length cells) all ≡ cells → take n all ≡ cells
taken n all cells e same = ap (λ k. take k all) e ∙ same

-- ---- the first ragged row

ragged-first : (columns start : ℕ) (rows : List (List ℕ)) → 1 ≤ length rows → ragged columns start rows
    ≡ (if length (first_row rows) == columns then ragged columns (start + length (first_row rows) + 1) (rows_behind rows)
    else Some start)
ragged-first columns start [] h = absurd (omega arith)
ragged-first columns start (row ∷ rows) h = refl

-- what is known of the rows from a place on: how long the first is, and which of those behind it is ragged
pub record RaggedFrom (columns : ℕ) (text : List ℕ) (start row : ℕ) (later : Option ℕ) : Type 0 where
  pub inside : start + row ≤ length text
  pub long : row ≡ length (first_row (cut (drop start text)))
  pub behind : later ≡ ragged columns (start + row + 2) (rows_behind (cut (drop start text)))

module _ (columns : ℕ) (text : List ℕ) (start row : ℕ) (later : Option ℕ) (some : 0 < start)
    (so_far : RaggedFrom columns text start row later) where
  at : drop (start - 1) text ≡ get_or text (start - 1) 0 ∷ drop start text
  at = let s : suc (start - 1) ≡ start = omega arith in let l = so_far.inside in
      drop-read text (start - 1) (omega arith) ∙ ap (λ n. get_or text (start - 1) 0 ∷ drop n text) s

  module _ (b : get_or text (start - 1) 0 ≡ bar) where
    here : cut (drop (start - 1) text) ≡ [] ∷ cut (drop start text)
    here = ap cut at ∙ cut-bar (get_or text (start - 1) 0) (drop start text) b

    there : (o : Option ℕ) → o ≡ (if row == columns then later else Some (start + 1)) → RaggedFrom columns text (start - 1) 0 o
    there o e =
        let l = so_far.inside in
        let s : start - 1 + 0 + 2 ≡ start + 1 = omega arith in
        let t : start + 1 + row + 1 ≡ start + row + 2 = omega arith in
        let rows = cut (drop start text) in
        record {
          inside = omega arith;
          long = sym (ap (λ z. length (first_row z)) here);
          behind = e ∙ ap (λ z. if row == columns then z else Some (start + 1)) (so_far.behind ∙ ap (λ k. ragged columns k
              (rows_behind rows)) (sym t))
              ∙ ap (λ z. if z == columns then ragged columns (start + 1 + z + 1) (rows_behind rows) else Some (start + 1))
              so_far.long
              ∙ sym (ragged-first columns (start + 1) rows (some-row (drop start text)))
              ∙ ap (λ k. ragged columns k rows) (sym s)
              ∙ ap (λ z. ragged columns (start - 1 + 0 + 2) z) (sym (ap rows_behind here));
        }

    pub ragged_here : (row ≡ columns → ⊥) → RaggedFrom columns text (start - 1) 0 (Some (start - 1 + 2))
    ragged_here n =
        let s : start - 1 + 2 ≡ start + 1 = omega arith in
        elim (eqb_tells row columns) [
          | inl p ↦ absurd (n p.1)
          | inr p ↦ there (Some (start - 1 + 2)) (ap (λ z. Some z) s ∙ ap (λ t. if t then later else Some (start + 1)) (sym
              p.0))
        ]

-- ---- the size of a board

-- where no row is ragged, there are so many cells in each
pub not-ragged : (columns start : ℕ) (rows : List (List ℕ)) → ragged columns start rows ≡ None
    → length (cells_of rows) ≡ length rows * columns
not-ragged columns start [] e = omega arith
not-ragged columns start (row ∷ rows) e = elim (eqb_tells (length row) columns) [
  | inl p ↦ (let rest = not-ragged columns (start + length row + 1) rows (sym (ap (λ t. if t then ragged columns (start +
      length row + 1) rows else Some start) p.0) ∙ e) in
      let a = length-append row (cells_of rows) in
      let q = p.1 in
      let m : suc (length rows) * columns ≡ columns + length rows * columns = omega arith in
      omega (arith, m))
  | inr p ↦ absurd (some_none start (sym (ap (λ t. if t then ragged columns (start + length row + 1) rows else Some
      start) p.0) ∙ e))
]
  where
    some_none : (x : ℕ) → Some x ≡ None → ⊥
    some_none x h = cc

-- and so many rows
pub rows-by : (rows columns n : ℕ) → n ≡ rows * columns → (columns ≡ 0 → ⊥) → n / columns ≡ rows
rows-by rows columns n e some = grind (arith, nat_tests, div-mul-add)

pub few-rows : (rows columns n : ℕ) → n ≡ rows * columns → n ≤ 64 → (columns ≡ 0 → ⊥) → rows ≤ 64
few-rows rows columns n e few some = grind (arith, nat_tests, mul-le-mul_left)

-- ---- the cells of a board

pub in-cut : (text : List ℕ) (c : ℕ) → In c (cells_of (cut text)) → In c text × (c ≡ bar → ⊥)
in-cut [] c m = absurd m
in-cut (d ∷ ds) c m = elim (eqb_tells d bar) [
  | inl p ↦ (let h = in-cut ds c (carry c (cells_of (cut (d ∷ ds))) (cells_of (cut ds)) (ap cells_of (cut-bar d ds p.1))
      m) in (inr h.0, h.1))
  | inr p ↦ elim (carry c (cells_of (cut (d ∷ ds))) (d ∷ cells_of (cut ds)) (ap cells_of (cut-front d ds p.1)
      ∙ front-cells d (cut ds)) m) [
        | inl e ↦ (inl e, λ b. p.1 (sym e ∙ b))
        | inr k ↦ (let h = in-cut ds c k in (inr h.0, h.1))
      ]
]

in-rows : (one_row : Bool) (text : List ℕ) (c : ℕ) → In c (cells_of (rows_of one_row text)) → In c text × ((one_row ≡ true) ⊎ (c ≡ bar → ⊥))
in-rows true text c m = (carry c (text ++ []) text (append-nil text) m, inl refl)
in-rows false text c m = let h = in-cut text c m in (h.0, inr h.1)

any-contains : (symbols : List ℕ) (c : ℕ) → list_any (λ s. s == c) symbols ≡ true → Contains symbols c
any-contains [] c e = cc
any-contains (s ∷ ss) c e = elim (eqb_tells s c) [
  | inl p ↦ (0, omega arith, p.1)
  | inr p ↦ (let (k, l, f) = any-contains ss c (sym (ap (λ b. b || list_any (λ s. s == c) ss) p.0) ∙ e) in
      (suc k, omega arith, f))
]

symbol-of : (one_row a b : Bool) → not (a || (not one_row && b)) ≡ false → (one_row ≡ true) ⊎ (b ≡ false) → a ≡ true
symbol-of one_row true b e which = refl
symbol-of true false b e which = cc
symbol-of false false b e (inl h) = cc
symbol-of false false true e (inr h) = cc
symbol-of false false false e (inr h) = cc

bar-false : (c : ℕ) → (c ≡ bar → ⊥) → (c == bar) ≡ false
bar-false c n = elim (eqb_tells c bar) [ inl p ↦ absurd (n p.1) | inr p ↦ p.0 ]

pub read-in : (cells : List ℕ) (k : ℕ) → k < length cells → In (slice_index cells k) cells
read-in [] k l = absurd (omega arith)
read-in (c ∷ cells) zero l = inl refl
read-in (c ∷ cells) (suc k) l = inr (read-in cells k (omega arith))

in-read : (cells : List ℕ) (c : ℕ) → In c cells → (k : ℕ) × (k < length cells) × (slice_index cells k ≡ c)
in-read [] c m = absurd m
in-read (d ∷ cells) c (inl e) = (0, omega arith, sym e)
in-read (d ∷ cells) c (inr m) = let (k, l, e) = in-read cells c m in (suc k, omega (arith, l), e)

none-foreign : (p : ℕ → Bool) (xs : List ℕ) → position p xs ≡ None → (c : ℕ) → In c xs → p c ≡ false
none-foreign p xs e c m = grind (arith, nat_tests, in-read, fails_before_first, leb_tells, lt-ltb)

pub cells-symbols : (one_row : Bool) (symbols text cells : List ℕ) → cells ≡ cells_of (rows_of one_row text)
    → position (is_foreign one_row symbols) text ≡ None → AreCells symbols cells
cells-symbols one_row symbols text cells e none_left k l =
    let c = slice_index cells k in
    let h = in-rows one_row text c (carry c cells (cells_of (rows_of one_row text)) e (read-in cells k l)) in
    let f = none-foreign (is_foreign one_row symbols) text none_left c h.0 in
    any-contains symbols c (symbol-of one_row (list_any (λ s. s == c) symbols) (c == bar) f (elim h.1 [
      | inl t ↦ inl t
      | inr n ↦ inr (bar-false c n)
    ]))

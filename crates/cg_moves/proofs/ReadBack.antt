-- The text of a board reads back as the board.
use Rattle.std.proofs.Common.{◌≡◌, refl, ℕ, zero, suc, ◌+◌, ◌-◌, ◌*◌, ◌<◌, ◌≤◌, ◌==◌, not, Bool, true, false, cond, ◌⊎◌, inl, inr, Some}
use Rattle.std.proofs.Common.{None, List, [], ◌∷◌, ◌++◌, length, take, drop, ap, sym, ◌∙◌, arith, length-drop, append-nil, append_assoc}
use Rattle.std.specs.Prelude.{All, Contains, Ok, nat_lt, position, slice_index}
use Rattle.std.specs.List.{list_all, list_any, position_or_len}
use Rattle.std.proofs.Math.Seq.{take-length}
use Rattle.std.proofs.lemmas.Bool.{eq-eqb, leb-true}
use Rattle.std.proofs.lemmas.Bool.Decides.{eqb_tells, nat_tests}
use Rattle.std.proofs.lemmas.List.{drop-drop, length-take-le, take-append-drop}
use Rattle.cg_moves.specs.Grid.{AreCells, Grid, IsGrid, is_symbol}
use Rattle.cg_moves.specs.Rules.{In}
use Rattle.cg_moves.specs.Texts.{ReadsBack, bar, behind_bars, cells_of, cut, first_row, in_front}
use Rattle.cg_moves.specs.Texts.{in_rows, is_foreign, joined, ragged, read_of, rows_of, text_of}
use Rattle.cg_moves.proofs.ConnectedLemmas.{or-first, or-second}
use Rattle.cg_form.proofs.Firsts.{in-append, in-append_left, in-append_right}
use Rattle.cg_moves.proofs.Members.{all_from, carry, in_flat_mapped, in_one}
use Rattle.cg_moves.proofs.Same.{and-true, both-true}
use Rattle.cg_moves.proofs.TextLemmas.{cut-bar, cut-front, read-in}
use Rattle.std.proofs.lemmas.List.Sums.{prefix_len_is}

-- no byte of these is a bar
abbrev HasNoBar : List ℕ → Type 0
HasNoBar row = (c : ℕ) → In c row → c ≡ bar → ⊥

-- ---- a text is cut into the rows that were joined

cut-row : (row rest : List ℕ) (rows : List (List ℕ)) (first : List ℕ) → HasNoBar row → cut rest ≡ first ∷ rows
    → cut (row ++ rest) ≡ (row ++ first) ∷ rows
cut-row [] rest rows first none e = e
cut-row (c ∷ row) rest rows first none e =
    cut-front c (row ++ rest) (none c (inl refl))
    ∙ ap (in_front c) (cut-row row rest rows first (λ d m. none d (inr m)) e)

cut-behind : (rows : List (List ℕ)) → ((row : List ℕ) → In row rows → HasNoBar row) → cut (behind_bars rows) ≡ [] ∷ rows
cut-behind [] none = refl
cut-behind (row ∷ rows) none =
    cut-bar bar (row ++ behind_bars rows) refl
    ∙ ap (λ z. [] ∷ z) (cut-row row (behind_bars rows) rows [] (none row (inl refl)) (cut-behind rows (λ r m. none r (inr m)))
    ∙ ap (λ z. z ∷ rows) (append-nil row))

cut-joined : (row : List ℕ) (rows : List (List ℕ)) → ((r : List ℕ) → In r (row ∷ rows) → HasNoBar r)
    → cut (joined (row ∷ rows)) ≡ row ∷ rows
cut-joined row rows none =
    cut-row row (behind_bars rows) rows [] (none row (inl refl)) (cut-behind rows (λ r m. none r (inr m)))
    ∙ ap (λ z. z ∷ rows) (append-nil row)

-- ---- the rows of a board

rows-count : (rows columns : ℕ) (cells : List ℕ) → length (in_rows rows columns cells) ≡ rows
rows-count zero columns cells = refl
rows-count (suc rows) columns cells = ap suc (rows-count rows columns (drop columns cells))

-- behind the first row
rest-long : (rows columns : ℕ) (cells : List ℕ) → length cells ≡ suc rows * columns → length (drop columns cells) ≡ rows * columns
rest-long rows columns cells e =
    let m : suc rows * columns ≡ columns + rows * columns = omega arith in
    let d = length-drop columns cells in
    omega (arith, e, m, d)

first-long : (rows columns : ℕ) (cells : List ℕ) → length cells ≡ suc rows * columns → length (take columns cells) ≡ columns
first-long rows columns cells e = grind (arith, nat_tests, length-take-le)

rows-long : (rows columns : ℕ) (cells : List ℕ) → length cells ≡ rows * columns → (row : List ℕ)
    → In row (in_rows rows columns cells) → length row ≡ columns
rows-long zero columns cells e row m = absurd m
rows-long (suc rows) columns cells e row (inl s) = ap length s ∙ first-long rows columns cells e
rows-long (suc rows) columns cells e row (inr m) = rows-long rows columns (drop columns cells) (rest-long rows columns cells e) row m

rows-cells : (rows columns : ℕ) (cells : List ℕ) → length cells ≡ rows * columns → cells_of (in_rows rows columns cells) ≡ cells
rows-cells zero columns [] e = refl
rows-cells zero columns (c ∷ cells) e = absurd (omega (arith, e))
rows-cells (suc rows) columns cells e = grind (arith, nat_tests, rest-long, take-append-drop, rows-cells rows columns (drop columns cells) (rest-long rows columns cells e))

-- one more row
drop-rows : (n columns : ℕ) (cells : List ℕ) → drop (n * columns) (drop columns cells) ≡ drop (suc n * columns) cells
drop-rows n columns cells = grind (arith, nat_tests, drop-drop)

behind-next : (n columns : ℕ) (cells : List ℕ)
    → behind_bars (in_rows (suc n) columns cells) ≡ behind_bars (in_rows n columns cells) ++ (bar ∷ take columns (drop (n * columns) cells))
behind-next zero columns cells =
    let none : 0 ≡ 0 * columns = omega arith in
    ap (λ z. bar ∷ z) (append-nil (take columns cells)) ∙ ap (λ k. bar ∷ take columns (drop k cells)) none
behind-next (suc n) columns cells =
    ap (λ z. bar ∷ (take columns cells ++ z)) (behind-next n columns (drop columns cells)
    ∙ ap (λ z. behind_bars (in_rows n columns (drop columns cells)) ++ (bar ∷ take columns z)) (drop-rows n columns cells))
    ∙ ap (λ z. bar ∷ z) (sym (append_assoc (take columns cells) (behind_bars (in_rows n columns (drop columns cells))) (bar ∷ take columns (drop (suc n * columns) cells))))

pub joined-next : (n columns : ℕ) (cells : List ℕ) → 1 ≤ n
    → joined (in_rows (n + 1) columns cells) ≡ joined (in_rows n columns cells) ++ (bar ∷ take columns (drop (n * columns) cells))
joined-next zero columns cells some = absurd (omega (arith, some))
joined-next (suc n) columns cells some =
    let up : suc n + 1 ≡ suc (suc n) = omega arith in
    ap (λ k. joined (in_rows k columns cells)) up
    ∙ ap (λ z. take columns cells ++ z) (behind-next n columns (drop columns cells)
    ∙ ap (λ z. behind_bars (in_rows n columns (drop columns cells)) ++ (bar ∷ take columns z)) (drop-rows n columns cells))
    ∙ sym (append_assoc (take columns cells) (behind_bars (in_rows n columns (drop columns cells))) (bar ∷ take columns (drop (suc n * columns) cells)))

pub row_written : (n columns m : ℕ) (cells same bytes with_bar new : List ℕ) → 1 ≤ n → bytes ≡ joined (in_rows n columns cells)
    → with_bar ≡ bytes ++ (bar ∷ []) → same ≡ cells → m ≡ columns
    → new ≡ with_bar ++ take (n * m + m - n * m) (drop (n * m) same) → new ≡ joined (in_rows (n + 1) columns cells)
row_written n columns m cells same bytes with_bar new some so_far put e f written =
    let long : n * m + m - n * m ≡ m = omega arith in
    written
    ∙ ap (λ z. z ++ take (n * m + m - n * m) (drop (n * m) same)) (put ∙ ap (λ z. z ++ (bar ∷ [])) so_far)
    ∙ append_assoc (joined (in_rows n columns cells)) (bar ∷ []) (take (n * m + m - n * m) (drop (n * m) same))
    ∙ ap (λ k. joined (in_rows n columns cells) ++ (bar ∷ take k (drop (n * m) same))) long
    ∙ ap (λ k. joined (in_rows n columns cells) ++ (bar ∷ take k (drop (n * k) same))) f
    ∙ ap (λ z. joined (in_rows n columns cells) ++ (bar ∷ take columns (drop (n * columns) z))) e
    ∙ sym (joined-next n columns cells some)

in-cells_of : (row : List ℕ) (rows : List (List ℕ)) (c : ℕ) → In row rows → In c row → In c (cells_of rows)
in-cells_of row rows c m k = in_flat_mapped (λ (r : List ℕ). r) c row rows m k

-- ---- the bytes of the text

joined-in : (rows : List (List ℕ)) (c : ℕ) → In c (joined rows) → (c ≡ bar) ⊎ In c (cells_of rows)
joined-in [] c m = absurd m
joined-in (row ∷ rows) c m = elim (in-append c row (behind_bars rows) m) [
  | inl k ↦ inr (in-append_left c row (cells_of rows) k)
  | inr k ↦ elim (behind rows k) [ inl e ↦ inl e | inr n ↦ inr (in-append_right c row (cells_of rows) n) ]
]
  where
    behind : (rows : List (List ℕ)) → In c (behind_bars rows) → (c ≡ bar) ⊎ In c (cells_of rows)
    behind [] k = absurd k
    behind (r ∷ rs) (inl e) = inl e
    behind (r ∷ rs) (inr k) = elim (in-append c r (behind_bars rs) k) [
      | inl n ↦ inr (in-append_left c r (cells_of rs) n)
      | inr n ↦ elim (behind rs n) [ inl e ↦ inl e | inr o ↦ inr (in-append_right c r (cells_of rs) o) ]
    ]

-- each cell has a symbol
cell-symbol : (symbols cells : List ℕ) → AreCells symbols cells → (c : ℕ) → In c cells → Contains symbols c
cell-symbol symbols [] h c m = absurd m
cell-symbol symbols (d ∷ cells) h c (inl e) = rw e (h 0 (omega arith))
cell-symbol symbols (d ∷ cells) h c (inr m) = cell-symbol symbols cells (λ k l. h (suc k) (omega (arith, l))) c m

contains-any : (symbols : List ℕ) (c : ℕ) → Contains symbols c → list_any (λ s. s == c) symbols ≡ true
contains-any [] c (k, l, e) = absurd (omega (arith, l))
contains-any (s ∷ symbols) c (zero, l, e) = or-first (s == c) (list_any (λ s. s == c) symbols) (eq-eqb s c e)
contains-any (s ∷ symbols) c (suc k, l, e) = or-second (s == c) (list_any (λ s. s == c) symbols)
    (contains-any symbols c (k, omega (arith, l), e))

symbol-is : (symbols : List ℕ) → list_all is_symbol symbols ≡ true → (c : ℕ) → Contains symbols c → is_symbol c ≡ true
symbol-is [] all c (k, l, e) = absurd (omega (arith, l))
symbol-is (s ∷ symbols) all c (zero, l, e) = ap is_symbol (sym e) ∙ (and-true (is_symbol s) (list_all is_symbol symbols) all).0
symbol-is (s ∷ symbols) all c (suc k, l, e) =
    symbol-is symbols (and-true (is_symbol s) (list_all is_symbol symbols) all).1 c (k, omega (arith, l), e)

-- a symbol is ASCII, and no bar
pub symbol-ascii : (c : ℕ) → is_symbol c ≡ true → c < 128
symbol-ascii c e = grind (arith, nat_tests, and-true, leb-true)

symbol-no_bar : (c : ℕ) → is_symbol c ≡ true → c ≡ bar → ⊥
symbol-no_bar c e f = grind (arith, nat_tests, eq-eqb, and-true)

module _ (p : Grid) (g : IsGrid p) where
  grid-symbols : list_all is_symbol p.symbols ≡ true
  grid-symbols = grind (arith, nat_tests, and-true)

  pub cell-is : (c : ℕ) → In c p.cells → is_symbol c ≡ true
  cell-is c m = symbol-is p.symbols grid-symbols c (cell-symbol p.symbols p.cells g.cells c m)

  cell-any : (c : ℕ) → In c p.cells → list_any (λ s. s == c) p.symbols ≡ true
  cell-any c m = contains-any p.symbols c (cell-symbol p.symbols p.cells g.cells c m)

  pub cells-ascii : All (λ c. c < 128) p.cells
  cells-ascii = all_from (λ c. c < 128) p.cells (λ c m. symbol-ascii c (cell-is c m))

-- ---- no byte is foreign

not-false : (b : Bool) → b ≡ false → not b ≡ true
not-false true e = cc
not-false false e = refl

not-less : (a b : ℕ) → b ≤ a → nat_lt a b ≡ false
not-less a b h = grind (arith, nat_tests)

none-found : (p : ℕ → Bool) (xs : List ℕ) → ((c : ℕ) → In c xs → p c ≡ false) → position p xs ≡ None
none-found p xs h =
    let all = prefix_len_is (λ x. not (p x)) xs (length xs) 0 (omega arith)
    (λ k l. not-false (p (slice_index xs k)) (h (slice_index xs k) (read-in xs k l))) (λ l. absurd (omega (arith, l))) in
    let few : nat_lt (position_or_len p xs) (length xs) ≡ false = not-less (position_or_len p xs) (length xs) (omega (arith, all)) in
    ap (λ b. cond b (Some (position_or_len p xs)) None) few

-- ---- what is read

ragged-none : (columns start : ℕ) (rows : List (List ℕ)) → ((row : List ℕ) → In row rows → length row ≡ columns)
    → ragged columns start rows ≡ None
ragged-none columns start [] h = refl
ragged-none columns start (row ∷ rows) h = grind (arith, nat_tests, eq-eqb, ragged-none columns (start + length row + 1) rows)

abbrev grid_of : List ℕ → ℕ → List (List ℕ) → Grid
grid_of symbols columns rows = record {
  rows = length rows;
  columns = columns;
  symbols = symbols;
  cells = cells_of rows;
}

read-rows : (symbols : List ℕ) (one_row : Bool) (text : List ℕ) (rows : List (List ℕ)) (columns : ℕ)
    → rows_of one_row text ≡ rows → position (is_foreign one_row symbols) text ≡ None → length (first_row rows) ≡ columns
    → 1 ≤ columns → ((row : List ℕ) → In row rows → length row ≡ columns) → length (cells_of rows) ≤ 64
    → read_of symbols one_row text ≡ Ok (grid_of symbols columns rows)
read-rows symbols one_row text rows columns are none first some long few = grind (arith, nat_tests, not-less, ragged-none, eqb_tells)

module _ (p : Grid) (g : IsGrid p) where
  some-columns : 1 ≤ p.columns
  some-columns = grind (arith, nat_tests)

  pub some-rows : 1 ≤ p.rows
  some-rows = grind (arith, nat_tests)

  no-bars : (row : List ℕ) → In row (in_rows p.rows p.columns p.cells) → HasNoBar row
  no-bars row m c k = symbol-no_bar c (cell-is p g c (carry c (cells_of (in_rows p.rows p.columns p.cells)) p.cells
      (rows-cells p.rows p.columns p.cells g.size) (in-cells_of row (in_rows p.rows p.columns p.cells) c m k)))

  known : (one_row : Bool) (c : ℕ) → ((one_row ≡ false) × (c ≡ bar)) ⊎ In c p.cells → is_foreign one_row p.symbols c ≡ false
  known one_row c (inl h) = grind (arith, nat_tests, or-second, both-true, not-false, eq-eqb)
  known one_row c (inr m) = grind (arith, nat_tests, or-first, cell-any)

  rows-text : cut (text_of p) ≡ in_rows p.rows p.columns p.cells
  rows-text = grind (arith, nat_tests, no-bars, cut-joined)

  first-columns : length (first_row (in_rows p.rows p.columns p.cells)) ≡ p.columns
  first-columns = grind (arith, nat_tests, first-long)

  pub text-reads_back : ReadsBack p false (text_of p)
  text-reads_back =
      let rows = in_rows p.rows p.columns p.cells in
      let all = rows-cells p.rows p.columns p.cells g.size in
      let few = g.few in
      let long = ap length all in
      read-rows p.symbols false (text_of p) rows p.columns rows-text
      (none-found (is_foreign false p.symbols) (text_of p) (λ c m. known false c (elim (joined-in rows c m) [
        | inl e ↦ inl (refl, e)
        | inr k ↦ inr (carry c (cells_of rows) p.cells all k)
      ])))
      first-columns some-columns (rows-long p.rows p.columns p.cells g.size) (omega (arith, few, long))
      ∙ ap (λ n. Ok (record { rows = n; columns = p.columns; symbols = p.symbols; cells = cells_of rows })) (rows-count p.rows p.columns p.cells)
      ∙ ap (λ cells. Ok (record { rows = p.rows; columns = p.columns; symbols = p.symbols; cells = cells })) all

  one-text : p.rows ≡ 1 → text_of p ≡ p.cells
  one-text one =
      let wide : length p.cells ≡ 1 * p.columns = g.size ∙ ap (λ n. n * p.columns) one in
      let all : length p.cells ≡ p.columns = omega (arith, wide) in
      ap (λ n. joined (in_rows n p.columns p.cells)) one
      ∙ append-nil (take p.columns p.cells)
      ∙ ap (λ n. take n p.cells) (sym all)
      ∙ take-length p.cells

  pub one_row-reads_back : p.rows ≡ 1 → ReadsBack p true (text_of p)
  one_row-reads_back one =
      let wide : length p.cells ≡ 1 * p.columns = g.size ∙ ap (λ n. n * p.columns) one in
      let all : length p.cells ≡ p.columns = omega (arith, wide) in
      let few = g.few in
      let same = append-nil p.cells in
      let long = ap length same in
      ap (λ text. read_of p.symbols true text) (one-text one)
      ∙ read-rows p.symbols true p.cells (p.cells ∷ []) p.columns refl
      (none-found (is_foreign true p.symbols) p.cells (λ c m. known true c (inr m)))
      all some-columns (λ row m. ap length (in_one row p.cells m) ∙ all) (omega (arith, few, long))
      ∙ ap (λ n. Ok (record { rows = n; columns = p.columns; symbols = p.symbols; cells = p.cells ++ [] })) (sym one)
      ∙ ap (λ cells. Ok (record { rows = p.rows; columns = p.columns; symbols = p.symbols; cells = cells })) same

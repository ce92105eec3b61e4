-- The cells of boards in words.
use Rattle.std.proofs.Common.{◌≡◌, ◌≢◌, refl, ℕ, suc, ◌+◌, ◌-◌, ◌*◌, ◌<◌, ◌≤◌, ◌==◌, inl, inr, None, true, false, if◌then◌else◌, nat_lt, List, [], ◌∷◌}
use Rattle.std.proofs.Common.{◌++◌, length, take, get_or, ap, sym, subst, ◌∙◌, arith, length-set, get_or-set_same, get_or-set_other, bit_and, min}
use Rattle.std.specs.Prelude.{Contains, slice_index, slice_set}
use Rattle.std.specs.Int.{bit_at}
use Rattle.std.specs.List.{position}
use Rattle.std.proofs.lemmas.Bool.{eq-eqb, eqb-true, le-ltb, lt-ltb}
use Rattle.std.proofs.lemmas.Bool.Decides.{eqb_tells, leb_tells, nat_tests}
use Rattle.std.proofs.Math.Seq.{take-suc}
use Rattle.std.proofs.lemmas.List.{ext_get_or, get_or-append_right, get_or-take, get_or_append_left, get_or_past, length-append, length-take-le}
use Rattle.std.proofs.lemmas.List.FromFn.{get_or-map-range_with_len, length-map-range_with_len}
use Rattle.std.proofs.lemmas.List.Sums.{fails_before_first, passes_at_first}
use Rattle.std.proofs.lemmas.Nat.Bits.{bit_at-lt, bit_at-zero, bit_at_and}
use Rattle.std.proofs.lemmas.Grind.{get_or_default_zero}
use Rattle.cg_moves.specs.declared.planes.Planes.{Planes}
use Rattle.cg_moves.specs.Grid.{AreCells, Grid, IsGrid, are_symbols, with_cells}
use Rattle.cg_moves.specs.PlaneBits.{ArePlanes, IsGridBy, IsWithIndex, cells_by, grid_by, index_at, index_of, plane_bit}
use Rattle.cg_moves.specs.Words.{IsWithBit, Marks}
use Rattle.cg_moves.proofs.GridFacts.{few-symbols, set-grid, symbol-above}
use Rattle.cg_moves.proofs.WordBits.{four_equal}

-- ---- indices of symbols

pub index-below : (symbols : List ℕ) (c : ℕ) → Contains symbols c → index_of symbols c < length symbols
index-below symbols c (k, l, e) = grind (arith, nat_tests, leb_tells, fails_before_first, eq-eqb)

pub index-reads : (symbols : List ℕ) (c : ℕ) → Contains symbols c → slice_index symbols (index_of symbols c) ≡ c
index-reads symbols c h =
    eqb-true (slice_index symbols (index_of symbols c)) c (passes_at_first (λ s. s == c) symbols 0 (index-below symbols c h))

-- a symbol that is there is found
pub index-found : (symbols : List ℕ) (c : ℕ) → Contains symbols c → position (λ s. s == c) symbols ≡ None → ⊥
index-found symbols c h e = grind (arith, nat_tests, lt-ltb, index-below)

-- a number below 16 by its bits
sum-bits : (n : ℕ) → n < 16 → bit_at n 0 + 2 * bit_at n 1 + 4 * bit_at n 2 + 8 * bit_at n 3 ≡ n
sum-bits n l = omega arith

-- ---- the bits that planes have

pub plane-inside : (symbols cells : List ℕ) (b i : ℕ) → i < length cells
    → plane_bit symbols cells b i ≡ bit_at (index_of symbols (slice_index cells i)) b
plane-inside symbols cells b i l =
    ap (λ t. if t then bit_at (index_of symbols (slice_index cells i)) b else 0) (lt-ltb i (length cells) l)

pub plane-outside : (symbols cells : List ℕ) (b i : ℕ) → length cells ≤ i → plane_bit symbols cells b i ≡ 0
plane-outside symbols cells b i l =
    ap (λ t. if t then bit_at (index_of symbols (slice_index cells i)) b else 0) (le-ltb i (length cells) l)

pub index-read : (symbols cells : List ℕ) (w : Planes) (i : ℕ) → ArePlanes symbols cells w → AreCells symbols cells
    → length symbols ≤ 16 → i < length cells → index_at w i ≡ index_of symbols (slice_index cells i)
index-read symbols cells w i are all few l = grind (arith, nat_tests, index-below, sum-bits, plane-inside)

-- the planes tell the cells
pub planes_tell : (symbols cells : List ℕ) (w : Planes) → ArePlanes symbols cells w → AreCells symbols cells
    → length symbols ≤ 16 → cells_by symbols w (length cells) ≡ cells
planes_tell symbols cells w are all few =
    ext_get_or 0 (cells_by symbols w (length cells)) cells long same
  where
    read : ℕ → ℕ
    read i = slice_index symbols (index_at w i)

    long : length (cells_by symbols w (length cells)) ≡ length cells
    long = length-map-range_with_len (λ i. slice_index symbols (index_at w i)) 0 (length cells)

    same : (i : ℕ) → i < length (cells_by symbols w (length cells)) → get_or (cells_by symbols w (length cells)) i 0 ≡ get_or cells i 0
    same i l = grind (arith, nat_tests, long, get_or-map-range_with_len, index-read, index-reads)

-- ---- another symbol at a cell

-- the cells with this symbol at the cell
abbrev Puts : List ℕ → List ℕ → List ℕ → ℕ → ℕ → Type 0
Puts symbols cells new i s =
    (b k : ℕ) → plane_bit symbols new b k ≡ (if k == i then bit_at (index_of symbols s) b else plane_bit symbols cells b k)

bits_put : (symbols cells new : List ℕ) (i s b old word : ℕ) → Puts symbols cells new i s
    → ((k : ℕ) → bit_at old k ≡ plane_bit symbols cells b k) → IsWithBit old word i (bit_at (index_of symbols s) b)
    → (k : ℕ) → bit_at word k ≡ plane_bit symbols new b k
bits_put symbols cells new i s b old word puts before with_bit k =
    with_bit k ∙ ap (λ z. if k == i then bit_at (index_of symbols s) b else z) (before k) ∙ sym (puts b k)

planes_put : (symbols cells new : List ℕ) (w v : Planes) (i s : ℕ) → Puts symbols cells new i s
    → ArePlanes symbols cells w → IsWithIndex w v i (index_of symbols s) → ArePlanes symbols new v
planes_put symbols cells new w v i s puts are put = record {
  a = bits_put symbols cells new i s 0 w.a v.a puts are.a put.a;
  b = bits_put symbols cells new i s 1 w.b v.b puts are.b put.b;
  c = bits_put symbols cells new i s 2 w.c v.c puts are.c put.c;
  d = bits_put symbols cells new i s 3 w.d v.d puts are.d put.d;
}

puts : (symbols cells new : List ℕ) (i s : ℕ) → i < length new → slice_index new i ≡ s
    → ((k : ℕ) → k ≢ i → (b : ℕ) → plane_bit symbols new b k ≡ plane_bit symbols cells b k)
    → Puts symbols cells new i s
puts symbols cells new i s l here others b k = elim (eqb_tells k i) [
  | inl h ↦ ap (plane_bit symbols new b) h.1 ∙ plane-inside symbols new b i l
      ∙ ap (λ c. bit_at (index_of symbols c) b) here
      ∙ ap (λ t. if t then bit_at (index_of symbols s) b else plane_bit symbols cells b k) (sym h.0)
  | inr h ↦ others k h.1 b
      ∙ ap (λ t. if t then bit_at (index_of symbols s) b else plane_bit symbols cells b k) (sym h.0)
]

pub planes_set : (symbols cells : List ℕ) (w v : Planes) (i s : ℕ) → i < length cells → ArePlanes symbols cells w
    → IsWithIndex w v i (index_of symbols s) → ArePlanes symbols (slice_set cells i s) v
planes_set symbols cells w v i s l =
    let e = length-set cells i s in
    planes_put symbols cells (slice_set cells i s) w v i s
    (puts symbols cells (slice_set cells i s) i s (omega arith) (get_or-set_same cells i s 0 l) (λ k n b.
    ap (λ z. if nat_lt k z then bit_at (index_of symbols (slice_index (slice_set cells i s) k)) b else 0) e
    ∙ ap (λ z. if nat_lt k (length cells) then bit_at (index_of symbols z) b else 0) (get_or-set_other cells i k s 0 n)))

planes_push : (symbols cells : List ℕ) (w v : Planes) (s : ℕ) → ArePlanes symbols cells w
    → IsWithIndex w v (length cells) (index_of symbols s) → ArePlanes symbols (cells ++ (s ∷ [])) v
planes_push symbols cells w v s =
    let n = length cells in
    let new = cells ++ (s ∷ []) in
    let long : length new ≡ n + 1 = length-append cells (s ∷ []) in
    planes_put symbols cells new w v n s
    (puts symbols cells new n s (omega arith)
    (let r = get_or-append_right cells (s ∷ []) n n 0 refl (omega arith) in
    let z : n - n ≡ 0 = omega arith in
    r ∙ ap (λ j. get_or (s ∷ []) j 0) z)
    (λ k other b. elim (leb_tells (length cells) k) [
      | inl h ↦ plane-outside symbols new b k (omega (arith, h.1, other)) ∙ sym (plane-outside symbols cells b k h.1)
      | inr h ↦ plane-inside symbols new b k (omega (arith, h.1))
          ∙ ap (λ c. bit_at (index_of symbols c) b) (get_or_append_left cells (s ∷ []) 0 k h.1)
          ∙ sym (plane-inside symbols cells b k h.1)
    ]))

pub planes_more : (symbols cells : List ℕ) (w v : Planes) (n d : ℕ) → n < length cells
    → ArePlanes symbols (take n cells) w → IsWithIndex w v n (index_of symbols (get_or cells n d))
    → ArePlanes symbols (take (n + 1) cells) v
planes_more symbols cells w v n d l are put =
    let up : suc n ≡ n + 1 = omega arith in
    rw (← (sym (take-suc cells n d l) ∙ ap (λ k. take k cells) up))
    (planes_push symbols (take n cells) w v (get_or cells n d) are (rw (length-take-le n cells (omega arith)) put))

pub planes_none : (symbols : List ℕ) → ArePlanes symbols [] (record { a = 0; b = 0; c = 0; d = 0 })
planes_none symbols = record {
  a = λ i. bit_at-zero i ∙ sym (plane-outside symbols [] 0 i (omega arith));
  b = λ i. bit_at-zero i ∙ sym (plane-outside symbols [] 1 i (omega arith));
  c = λ i. bit_at-zero i ∙ sym (plane-outside symbols [] 2 i (omega arith));
  d = λ i. bit_at-zero i ∙ sym (plane-outside symbols [] 3 i (omega arith));
}

-- ---- boards by their planes

-- the board that the planes of a board's cells tell is this board
pub grid-is : (p : Grid) (symbols : List ℕ) (w : Planes) → symbols ≡ p.symbols → IsGrid p
    → ArePlanes p.symbols p.cells w → grid_by p.rows p.columns symbols w ≡ p
grid-is p symbols w e g are =
    ap (λ z. grid_by p.rows p.columns z w) e
    ∙ ap (λ n. with_cells p (cells_by p.symbols w n)) (sym g.size)
    ∙ ap (with_cells p) (planes_tell p.symbols p.cells w are g.cells (few-symbols p.symbols g.symbols))

pub is_grid-by : (p : Grid) (symbols : List ℕ) (w : Planes) → symbols ≡ p.symbols → IsGrid p
    → ArePlanes p.symbols p.cells w → IsGridBy p.rows p.columns symbols w
is_grid-by p symbols w e g are =
    let same = grid-is p symbols w e g are in
    record { grid = subst IsGrid (sym same) g; planes = rw (← same) at are }

-- another symbol at a cell
pub record SetBy (rows columns : ℕ) (symbols : List ℕ) (v : Planes) (p : Grid) (i s : ℕ) : Type 0 where
  pub grid : IsGridBy rows columns symbols v
  pub view : grid_by rows columns symbols v ≡ with_cells p (slice_set p.cells i s)

pub set_by : (rows columns : ℕ) (symbols : List ℕ) (w v : Planes) (p : Grid) (i s : ℕ)
    → grid_by rows columns symbols w ≡ p → IsGridBy rows columns symbols w → i < length p.cells → Contains p.symbols s
    → IsWithIndex w v i (index_of symbols s) → SetBy rows columns symbols v p i s
set_by rows columns symbols w v p i s e old inside is put =
    let g = grid_by rows columns symbols w in
    let q = with_cells g (slice_set g.cells i s) in
    let below : i < length g.cells = (let k = ap (λ (r : Grid). length r.cells) e in omega arith) in
    let grid = set-grid g i s (rw (← e) at is) old.grid in
    let are = planes_set symbols g.cells w v i s below old.planes put in record {
      grid = is_grid-by q symbols v refl grid are;
      view = grid-is q symbols v refl grid are ∙ ap (λ (r : Grid). with_cells r (slice_set r.cells i s)) e;
    }

-- the symbol of a cell, read from the array with the symbols at its front
pub cell_read : (rows columns count : ℕ) (all : List ℕ) (w : Planes) (p : Grid) (i index : ℕ)
    → grid_by rows columns (take count all) w ≡ p → IsGridBy rows columns (take count all) w → count ≤ length all
    → i < length p.cells → index ≡ index_at w i → slice_index all index ≡ slice_index p.cells i
cell_read rows columns count all w p i index e g l inside is =
    let symbols = take count all in
    let cells = cells_by symbols w (rows * columns) in
    let long : length cells ≡ rows * columns = length-map-range_with_len (λ i. slice_index symbols (index_at w i)) 0 (rows * columns) in
    let below : i < length cells = (let k = ap (λ (r : Grid). length r.cells) e in omega arith) in
    let few = few-symbols symbols g.grid.symbols in
    let short : length symbols ≡ count = length-take-le count all l in
    let small : index_at w i < count = (let r = index-read symbols cells w i g.planes g.grid.cells few below in
    let b = index-below symbols (slice_index cells i) (g.grid.cells i below) in omega arith) in
    ap (slice_index all) is ∙ sym (get_or-take count all (index_at w i) 0 small)
    ∙ sym (get_or-map-range_with_len (λ i. slice_index symbols (index_at w i)) 0 (rows * columns) i i 0 (omega arith) (omega arith))
    ∙ ap (λ (r : Grid). slice_index r.cells i) e

-- ---- the cells with a symbol

-- the places that have an index are those where each of its four bits is
pub places_by : (w : Planes) (index e f g h x y z u i : ℕ) → index < 16 → e ≡ bit_at index 0 → f ≡ bit_at index 1
    → g ≡ bit_at index 2 → h ≡ bit_at index 3 → bit_at x i ≡ (if bit_at w.a i == e then 1 else 0)
    → bit_at y i ≡ (if bit_at w.b i == f then 1 else 0) → bit_at z i ≡ (if bit_at w.c i == g then 1 else 0)
    → bit_at u i ≡ (if bit_at w.d i == h then 1 else 0)
    → bit_at (bit_and (bit_and x y) (bit_and z u)) i ≡ (if index_at w i == index then 1 else 0)
places_by w index e f g h x y z u i l ie jf ig ih ax ay az au = grind (arith, nat_tests, bit_at-lt, sum-bits, bit_at_and, four_equal)

-- no cell past the last one has a symbol
no-symbol : (symbols cells : List ℕ) (symbol i : ℕ) → are_symbols symbols ≡ true → Contains symbols symbol → length cells ≤ i
    → (slice_index cells i == symbol) ≡ false
no-symbol symbols cells symbol i are (k, l, e) past = elim (eqb_tells (slice_index cells i) symbol) [
  | inl h ↦ (let none : slice_index cells i ≡ 0 = get_or_past cells i 0 past in
      let some = symbol-above symbols k are l in
      let read : get_or symbols k symbol ≡ get_or symbols k 0 = get_or_default_zero symbols k symbol l in
      absurd (omega (arith, h.1, none, some, read, e)))
  | inr h ↦ h.0
]

-- a place has the symbol's index where its cell has the symbol
same-symbol : (symbols cells : List ℕ) (w : Planes) (symbol i : ℕ) → ArePlanes symbols cells w → AreCells symbols cells
    → length symbols ≤ 16 → Contains symbols symbol → i < length cells
    → (index_at w i == index_of symbols symbol) ≡ (slice_index cells i == symbol)
same-symbol symbols cells w symbol i are all few has l =
    let read = index-read symbols cells w i are all few l in
    elim (eqb_tells (slice_index cells i) symbol) [
      | inl h ↦ eq-eqb (index_at w i) (index_of symbols symbol) (read ∙ ap (index_of symbols) h.1) ∙ sym h.0
      | inr h ↦ elim (eqb_tells (index_at w i) (index_of symbols symbol)) [
        | inl e ↦ absurd (h.1 (sym (index-reads symbols (slice_index cells i) (all i l))
            ∙ ap (slice_index symbols) (sym read ∙ e.1) ∙ index-reads symbols symbol has))
        | inr e ↦ e.0 ∙ sym h.0
      ]
    ]

-- the places with a symbol's index, among those of the cells
pub places_of : (p : Grid) (w : Planes) (symbol index word mask : ℕ) → IsGrid p → ArePlanes p.symbols p.cells w
    → Contains p.symbols symbol → index ≡ index_of p.symbols symbol
    → ((i : ℕ) → i < 64 → bit_at word i ≡ (if index_at w i == index then 1 else 0))
    → Marks mask (λ i. nat_lt i (length p.cells)) → Marks (bit_and word mask) (λ i. slice_index p.cells i == symbol)
places_of p w symbol index word mask g are has is have all i =
    bit_at_and word mask i ∙ ap (min (bit_at word i)) (all i) ∙ elim (leb_tells (suc i) (length p.cells)) [
      | inl h ↦ (let few = g.few in
          let b = bit_at-lt word i in
          let k : min (bit_at word i) 1 ≡ bit_at word i = omega arith in
          ap (λ t. min (bit_at word i) (if t then 1 else 0)) h.0 ∙ k ∙ have i (omega (arith, h.1))
          ∙ ap (λ n. if index_at w i == n then 1 else 0) is
          ∙ ap (λ t. if t then 1 else 0) (same-symbol p.symbols p.cells w symbol i are g.cells (few-symbols p.symbols g.symbols) has h.1))
      | inr h ↦ (let k : min (bit_at word i) 0 ≡ 0 = omega arith in
          ap (λ t. min (bit_at word i) (if t then 1 else 0)) h.0 ∙ k
          ∙ ap (λ t. if t then 1 else 0) (sym (no-symbol p.symbols p.cells symbol i g.symbols has (omega (arith, h.1)))))
    ]

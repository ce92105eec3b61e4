-- The board of a set of cells, by its words.
use Rattle.std.proofs.Common.{◌≡◌, refl, ℕ, ◌*◌, ◌<◌, inl, inr, true, if◌then◌else◌, length, slice_index, ap, sym, ◌∙◌, subst, arith, ◌^◌, bit_and, bit_or, w64}
use Rattle.std.specs.Prelude.{Contains}
use Rattle.std.specs.Int.{bit_at}
use Rattle.std.proofs.lemmas.Bool.{le-ltb, lt-ltb}
use Rattle.std.proofs.lemmas.Bool.Decides.{leb_tells, eqb_tells, nat_tests}
use Rattle.cg_dyadic.proofs.Truth.{false-from, true-or-not}
use Rattle.cg_moves.specs.declared.planes.Planes.{Planes}
use Rattle.cg_moves.specs.Grid.{Grid, IsGrid}
use Rattle.cg_moves.specs.PlaneBits.{ArePlanes, IsGridBy, grid_by, index_of, plane_bit}
use Rattle.cg_moves.proofs.PlaneLemmas.{grid-is, index-reads, is_grid-by, plane-inside, plane-outside}
use Rattle.cg_pieces.specs.declared.frame.Frame.{Frame}
use Rattle.cg_pieces.specs.Boxes.{cropped, set_box, shown_cell, unboxed}
use Rattle.cg_pieces.specs.Frames.{box_from}
use Rattle.cg_pieces.specs.Moving.{IsIndex}
use Rattle.cg_pieces.specs.Neighbours.{Neighbours}
use Rattle.cg_pieces.specs.Words.{IsSetFrom, in_word}
use Rattle.cg_pieces.proofs.Crops.{crop-at}
use Rattle.cg_pieces.proofs.Frames.{board-is, cropped-cells, cropped-size, few-cells, frame-cells, made, some-cells, unboxed-below, wide-grid}
use Rattle.cg_pieces.proofs.FrameWords.{first-in, in-set}
use Rattle.cg_pieces.proofs.RowWords.{cut}
use Rattle.std.proofs.lemmas.Nat.Bits.{bit_at-lt, bit_at_and, bit_at_not, bit_at_or}
use Rattle.cg_pieces.proofs.GrowingSets.{other_bits}

pub shown-off : (word set bit k : ℕ) → bit ≡ 0 → bit_at (bit_and word set) k ≡ (if in_word set k then bit_at word k else bit)
shown-off word set bit k off = grind (arith, nat_tests, bit_at_and, bit_at-lt, eqb_tells)

pub shown-on : (word set bit k : ℕ) → bit ≡ 1 → set < 2 ^ 64 → k < 64
    → bit_at (bit_or word (other_bits set)) k ≡ (if in_word set k then bit_at word k else bit)
shown-on word set bit k on fits few =
    let h = bit_at_or word (other_bits set) k in
    let m = bit_at_not w64 set k fits few in
    let x = bit_at-lt word k in
    let y = bit_at-lt set k in
    elim (eqb_tells (bit_at set k) 1) [
      | inl e ↦ let one = e.1 in
          let is : bit_at (bit_or word (other_bits set)) k ≡ bit_at word k = omega (arith, h, m, x, one) in
          is ∙ ap (λ b. if b then bit_at word k else bit) (sym e.0)
      | inr e ↦ let other = e.1 in
          let is : bit_at (bit_or word (other_bits set)) k ≡ bit = omega (arith, h, m, x, y, other, on) in
          is ∙ ap (λ b. if b then bit_at word k else bit) (sym e.0)
    ]

-- the index shows the blank of the game
pub record Shows (n : Neighbours) (p : Grid) (index : ℕ) : Type 0 where
  pub shows : slice_index p.symbols index ≡ n.blank
  pub is : IsIndex p.symbols (slice_index p.symbols index) index

pub index-shows : (n : Neighbours) (p : Grid) (index : ℕ) → p.symbols ≡ n.symbols → IsIndex n.symbols n.blank index → Shows n p index
index-shows n p index e is =
    let shows : slice_index p.symbols index ≡ n.blank =
    ap (slice_index p.symbols) is.value ∙ ap (λ z. slice_index z (index_of n.symbols n.blank)) e
    ∙ index-reads n.symbols n.blank is.contained in
    record {
      shows = shows;
      is = subst (λ z. IsIndex p.symbols z index) (sym shows) (subst (λ z. IsIndex z n.blank index) (sym e) is);
    }

module _ (p : Grid) (grid : IsGrid p) (set first blank : ℕ) (from : IsSetFrom p set first)
    (has : Contains p.symbols blank) (f : Frame) (frame : box_from f ≡ set_box (in_word set) p) where
  abbrev inside : (k : ℕ) → in_word set k ≡ true → k < length p.cells
  inside = in-set p grid set first from

  abbrev some : in_word set first ≡ true
  some = first-in p grid set first from

  abbrev piece : Grid
  piece = cropped blank (in_word set) p

  size-is : length piece.cells ≡ f.rows * f.columns
  size-is =
      cropped-size p (in_word set) inside first some (wide-grid p grid) grid.size blank
      ∙ sym (frame-cells p (in_word set) inside first some (wide-grid p grid) grid.size f frame)

  -- ---- one of the words

  module _ (columns : ℕ) (same : columns ≡ p.columns) (word index bit shown : ℕ) (b : ℕ)
      (word_is : (k : ℕ) → bit_at word k ≡ plane_bit p.symbols p.cells b k) (index_is : index ≡ index_of p.symbols blank)
      (bit_is : bit ≡ bit_at index b)
      (shown_is : (k : ℕ) → k < 64 → bit_at shown k ≡ (if in_word set k then bit_at word k else bit)) where
    shown-at : (k : ℕ) → k < length p.cells → bit_at shown k ≡ bit_at (index_of p.symbols (shown_cell blank (in_word set) p.cells k)) b
    shown-at k below =
        let few = grid.few in
        shown_is k (omega (arith, below, few)) ∙ elim (true-or-not (in_word set k)) [
          | inl t ↦
              ap (λ z. if z then bit_at word k else bit) t ∙ word_is k ∙ plane-inside p.symbols p.cells b k below
              ∙ ap (λ z. bit_at (index_of p.symbols (if z then slice_index p.cells k else blank)) b) (sym t)
          | inr n ↦
              let none = false-from (in_word set k) n in
              ap (λ z. if z then bit_at word k else bit) none ∙ bit_is ∙ ap (λ z. bit_at z b) index_is
              ∙ ap (λ z. bit_at (index_of p.symbols (if z then slice_index p.cells k else blank)) b) (sym none)
        ]

    pub plane-is : (result : ℕ) → ((m : ℕ) → bit_at result m ≡ cut shown columns f f.rows m)
        → (m : ℕ) → bit_at result m ≡ plane_bit p.symbols piece.cells b m
    plane-is result cut_is m =
        let e = size-is in
        elim (leb_tells (f.rows * f.columns) m) [
          | inl h ↦
              let past = h.1 in
              cut_is m
              ∙ ap (λ t. if t then bit_at shown (unboxed (box_from f) columns m) else 0) (le-ltb m (f.rows * f.columns) past)
              ∙ sym (plane-outside p.symbols piece.cells b m (omega (arith, e, past)))
          | inr h ↦
              let within = h.1 in
              let cells = frame-cells p (in_word set) inside first some (wide-grid p grid) grid.size f frame in
              let in_box : m < (set_box (in_word set) p).rows * (set_box (in_word set) p).columns = omega (arith, within, cells) in
              let at : unboxed (box_from f) columns m ≡ unboxed (set_box (in_word set) p) p.columns m =
              ap (λ w. unboxed (box_from f) w m) same ∙ ap (λ z. unboxed z p.columns m) frame in
              let k : ℕ = unboxed (set_box (in_word set) p) p.columns m in
              cut_is m
              ∙ ap (λ t. if t then bit_at shown (unboxed (box_from f) columns m) else 0) (lt-ltb m (f.rows * f.columns) within)
              ∙ ap (bit_at shown) at
              ∙ shown-at k (unboxed-below p (in_word set) inside first some (wide-grid p grid) grid.size m in_box)
              ∙ ap (λ z. bit_at (index_of p.symbols z) b)
              (sym (crop-at blank p (in_word set) inside first some (wide-grid p grid) m in_box))
              ∙ sym (plane-inside p.symbols piece.cells b m (omega (arith, e, within)))
        ]

  -- ---- the board

  abbrev same_piece : Grid
  same_piece = made f.rows f.columns p.symbols piece.cells

  is-grid : IsGrid same_piece
  is-grid =
      let wide = wide-grid p grid in
      let e = size-is in
      let cells = frame-cells p (in_word set) inside first some wide grid.size f frame in
      let low = some-cells p (in_word set) inside first some wide grid.size in
      let high = few-cells p (in_word set) inside first some wide grid.size in
      let few = grid.few in record {
        symbols = grid.symbols;
        size = e;
        some = omega (arith, e, cells, low);
        few = omega (arith, e, cells, high, few);
        cells = cropped-cells p (in_word set) inside first some wide grid.size blank grid.cells has;
      }

  pub crop-grid : (w : Planes) → ArePlanes p.symbols piece.cells w → IsGridBy f.rows f.columns p.symbols w
  crop-grid w are = is_grid-by same_piece p.symbols w refl is-grid are

  pub crop-is : (w : Planes) → ArePlanes p.symbols piece.cells w → grid_by f.rows f.columns p.symbols w ≡ piece
  crop-is w are =
      grid-is same_piece p.symbols w refl is-grid are
      ∙ board-is p (in_word set) inside first some (wide-grid p grid) grid.size f frame blank p.symbols piece.cells refl refl

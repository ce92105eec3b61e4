-- The cells with a symbol, in a word of the board, and boards on which two cells get other symbols.
use Rattle.std.proofs.Common.{◌≡◌, ℕ, ◌==◌, inl, inr, if◌then◌else◌, List, length, slice_index, ap}
use Rattle.std.proofs.Common.{sym, ◌∙◌, refl, ◌<◌, arith, length-set, Bool, true, false, ◌≤◌, ◌^◌}
use Rattle.std.specs.Prelude.{Contains, slice_set}
use Rattle.std.specs.Int.{bit_at}
use Rattle.std.proofs.lemmas.Bool.{eqb-true}
use Rattle.std.proofs.lemmas.Bool.Decides.{leb_tells}
use Rattle.std.proofs.lemmas.List.{get_or_past}
use Rattle.cg_dyadic.proofs.Truth.{false-from}
use Rattle.cg_moves.specs.Grid.{Grid, IsGrid, with_cells}
use Rattle.cg_moves.specs.PlaneBits.{index_of, plane_bit, ArePlanes, IsWithIndex}
use Rattle.cg_moves.specs.Words.{Marks, IsWithBit}
use Rattle.cg_moves.proofs.PlaneLemmas.{plane-inside, plane-outside, SetBy, grid-is, is_grid-by, set_by, index-below}
use Rattle.cg_moves.specs.declared.planes.Planes.{Planes}
use Rattle.std.proofs.lemmas.Nat.Bits.{bit_at-zero, bit_at_above, same_from_bits}

-- bit b of the index of a symbol tells whether it is this one
abbrev pub Tells : List ℕ → ℕ → ℕ → Type 0
Tells symbols b s = (c : ℕ) → Contains symbols c → bit_at (index_of symbols c) b ≡ (if c == s then 1 else 0)

pub symbol-marks : (p : Grid) (word b s : ℕ) → IsGrid p → Tells p.symbols b s → ¬ (0 ≡ s)
    → ((i : ℕ) → bit_at word i ≡ plane_bit p.symbols p.cells b i) → Marks word (λ i. slice_index p.cells i == s)
symbol-marks p word b s g tells some are i = are i ∙ elim (leb_tells (length p.cells) i) [
  | inl h ↦
      let zero : slice_index p.cells i ≡ 0 = get_or_past p.cells i 0 h.1 in
      plane-outside p.symbols p.cells b i h.1
      ∙ ap (λ t. if t then 1 else 0) (sym (false-from (slice_index p.cells i == s) (λ t.
      some (sym zero ∙ eqb-true (slice_index p.cells i) s t))))
  | inr h ↦ plane-inside p.symbols p.cells b i h.1 ∙ tells (slice_index p.cells i) (g.cells i h.1)
]

-- the words in which the one cell and then the other got the index of another symbol are those of the board with these symbols
pub two_set : (rows columns : ℕ) (p : Grid) (w one both : Planes) (i j s t : ℕ) → rows ≡ p.rows → columns ≡ p.columns
    → IsGrid p → ArePlanes p.symbols p.cells w → i < length p.cells → j < length p.cells → Contains p.symbols s
    → Contains p.symbols t → IsWithIndex w one i (index_of p.symbols s) → IsWithIndex one both j (index_of p.symbols t)
    → SetBy rows columns p.symbols both (with_cells p (slice_set p.cells i s)) j t
two_set rows columns p w one both i j s t high wide g are inside below has is put next =
    let first = set_by p.rows p.columns p.symbols w one p i s (grid-is p p.symbols w refl g are)
    (is_grid-by p p.symbols w refl g are) inside has put in
    let long = length-set p.cells i s in
    rw high (rw wide
    (set_by p.rows p.columns p.symbols one both (with_cells p (slice_set p.cells i s)) j t first.view first.grid
    (omega (arith, below, long)) is next))

-- where the indices of the symbols have n bits, the other words of a board have none
pub plane-none : (p : Grid) (word b n : ℕ) → IsGrid p → length p.symbols ≤ 2 ^ n → n ≤ b
    → ((i : ℕ) → bit_at word i ≡ plane_bit p.symbols p.cells b i) → word ≡ 0
plane-none p word b n g few high are = same_from_bits word 0 (λ i. are i ∙ elim (leb_tells (length p.cells) i) [
  | inl h ↦ plane-outside p.symbols p.cells b i h.1
  | inr h ↦ (let below = index-below p.symbols (slice_index p.cells i) (g.cells i h.1) in
      plane-inside p.symbols p.cells b i h.1
      ∙ bit_at_above (index_of p.symbols (slice_index p.cells i)) n b (omega (arith, below, few)) high)
] ∙ sym (bit_at-zero i))

-- to clear a bit of no bits leaves none
pub bits-none : (word i : ℕ) → word ≡ 0 → IsWithBit word 0 i 0
bits-none word i e k = bit_at-zero k ∙ go (k == i)
  where
    go : (b : Bool) → 0 ≡ (if b then 0 else bit_at word k)
    go true = refl
    go false = sym (ap (λ w. bit_at w k) e ∙ bit_at-zero k)

-- The cells in which boards differ, by their planes.
use Rattle.std.proofs.Common.{◌≡◌, ◌≢◌, ℕ, ◌+◌, ◌*◌, ◌%◌, ◌<◌, ◌≤◌, ◌==◌, ◌^◌, inl, inr, not}
use Rattle.std.proofs.Common.{if◌then◌else◌, List, length, ap, sym, ◌∙◌, arith, max, bit_or, w64}
use Rattle.std.specs.Prelude.{slice_index}
use Rattle.std.specs.Int.{bit_at, trailing_zeros}
use Rattle.std.specs.Int.Bits.{bit_xor}
use Rattle.std.specs.Ordering.{nat_cmp}
use Rattle.std.specs.declared.cmp.Ordering.TheVariants.{Equal as Same}
use Rattle.std.proofs.lemmas.Bool.Decides.{eqb_tells, leb_tells, nat_tests}
use Rattle.std.proofs.lemmas.List.{ext_get_or, get_or_past}
use Rattle.std.proofs.lemmas.Nat.Bits.{bit_at-lt, bit_at-trailing_zeros, bit_at-zero, bit_at_or, bit_at_xor}
use Rattle.cg_moves.specs.declared.planes.Planes.{Planes}
use Rattle.cg_moves.specs.Grid.{AreCells}
use Rattle.cg_moves.specs.PlaneBits.{ArePlanes, index_at, plane_bit}
use Rattle.cg_moves.specs.Rising.{bytes_cmp}
use Rattle.cg_moves.specs.Words.{Marks}
use Rattle.cg_moves.proofs.PlaneLemmas.{index-read, index-reads}
use Rattle.cg_moves.proofs.RisingLemmas.{first-differs, same-cells}

-- ---- the word of the cells that differ

-- whether some of four pairs of bits are two bits
abbrev some_apart : ℕ → ℕ → ℕ → ℕ → ℕ → ℕ → ℕ → ℕ → ℕ
some_apart a b c d e f g h = max (max ((a + e) % 2) ((b + f) % 2)) (max ((c + g) % 2) ((d + h) % 2))

differing-bits : (u v : Planes) (i : ℕ)
    → bit_at (bit_or (bit_or (bit_xor u.a v.a) (bit_xor u.b v.b)) (bit_or (bit_xor u.c v.c) (bit_xor u.d v.d))) i
    ≡ some_apart (bit_at u.a i) (bit_at u.b i) (bit_at u.c i) (bit_at u.d i) (bit_at v.a i) (bit_at v.b i) (bit_at v.c i) (bit_at v.d i)
differing-bits u v i = grind (arith, nat_tests, bit_at_xor, bit_at_or)

all-same : (a b c d e f g h : ℕ) → a ≡ e → b ≡ f → c ≡ g → d ≡ h → some_apart a b c d e f g h ≡ 0
all-same a b c d e f g h p q r s = omega arith

not-same : (a b c d e f g h : ℕ) → a < 2 → b < 2 → c < 2 → d < 2 → e < 2 → f < 2 → g < 2 → h < 2
    → (a + 2 * b + 4 * c + 8 * d ≡ e + 2 * f + 4 * g + 8 * h → ⊥) → some_apart a b c d e f g h ≡ 1
not-same a b c d e f g h la lb lc ld le lf lg lh apart = omega (arith, apart)

module _ (symbols cells others : List ℕ) (u v : Planes) (here : ArePlanes symbols cells u)
    (there : ArePlanes symbols others v) (long : length cells ≡ length others) (i : ℕ) where
  plane-same : slice_index cells i ≡ slice_index others i → (b : ℕ) → plane_bit symbols cells b i ≡ plane_bit symbols others b i
  plane-same e b = grind (arith, nat_tests)

  same-cell : AreCells symbols cells → AreCells symbols others → length symbols ≤ 16 → i < length cells
      → index_at u i ≡ index_at v i → slice_index cells i ≡ slice_index others i
  same-cell are all few l e =
      let m : i < length others = omega (arith, l, long) in
      sym (index-reads symbols (slice_index cells i) (are i l))
      ∙ ap (slice_index symbols) (sym (index-read symbols cells u i here are few l) ∙ e ∙ index-read symbols others v i there all few m)
      ∙ index-reads symbols (slice_index others i) (all i m)

  pub differing_marks : AreCells symbols cells → AreCells symbols others → length symbols ≤ 16
      → bit_at (bit_or (bit_or (bit_xor u.a v.a) (bit_xor u.b v.b)) (bit_or (bit_xor u.c v.c) (bit_xor u.d v.d))) i
      ≡ (if not (slice_index cells i == slice_index others i) then 1 else 0)
  differing_marks are all few = grind (arith, nat_tests, differing-bits, eqb_tells, all-same, plane-same, not-same, bit_at-lt, same-cell, leb_tells, get_or_past)

-- ---- the order of cells by that word

module _ (cells others : List ℕ) (word : ℕ) (marks : Marks word (λ i. not (slice_index cells i == slice_index others i)))
    (long : length cells ≡ length others) where
  unmarked : (i : ℕ) → bit_at word i ≡ 0 → slice_index cells i ≡ slice_index others i
  unmarked i e = grind (arith, nat_tests, eqb_tells)

  marked : (i : ℕ) → bit_at word i ≡ 1 → slice_index cells i ≢ slice_index others i
  marked i e same = elim (eqb_tells (slice_index cells i) (slice_index others i)) [
    | inl h ↦ (let none = marks i ∙ ap (λ t. if not t then 1 else 0) h.0 in absurd (omega (arith, e, none)))
    | inr h ↦ h.1 same
  ]

  pub nothing_differs : word ≡ 0 → bytes_cmp cells others ≡ Same
  nothing_differs none =
      let same : cells ≡ others = ext_get_or 0 cells others long (λ i l. unmarked i (ap (λ z. bit_at z i) none ∙ bit_at-zero i)) in
      ap (bytes_cmp cells) (sym same) ∙ same-cells cells

  module _ (some : 0 < word) (fits : word < 2 ^ 64) where
    pub first_inside : trailing_zeros w64 word < length cells
    first_inside =
        let h = bit_at-trailing_zeros w64 word some fits in
        elim (leb_tells (length cells) (trailing_zeros w64 word)) [
          | inl n ↦ absurd (marked (trailing_zeros w64 word) h.1 (get_or_past cells (trailing_zeros w64 word) 0 n.1
              ∙ sym (get_or_past others (trailing_zeros w64 word) 0 (omega (arith, n.1, long)))))
          | inr n ↦ n.1
        ]

    pub first_tells : bytes_cmp cells others
        ≡ nat_cmp (slice_index cells (trailing_zeros w64 word)) (slice_index others (trailing_zeros w64 word))
    first_tells =
        let h = bit_at-trailing_zeros w64 word some fits in
        let l = first_inside in
        first-differs cells others (trailing_zeros w64 word) l (omega (arith, l, long)) (λ k m. unmarked k (h.2 k m))
        (marked (trailing_zeros w64 word) h.1)

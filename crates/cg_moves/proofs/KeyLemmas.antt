-- Keys of boards.
use Rattle.std.proofs.Common.{◌≡◌, refl, ℕ, zero, suc, ◌/◌, ◌<◌, bit_xor, true, List, [], ◌∷◌, ap, sym, ◌∙◌, arith}
use Rattle.std.specs.Int.{bit_at}
use Rattle.std.proofs.lemmas.Bool.{eq-eqb, eqb-true}
use Rattle.std.proofs.lemmas.Bool.Decides.{leb_tells, nat_tests}
use Rattle.std.proofs.lemmas.Nat.{xor_lt}
use Rattle.std.proofs.lemmas.Nat.Bits.{bit_at-lt, bit_at-suc, bit_at-zero, bit_at_lowest, same_from_bits}
use Rattle.cg_moves.specs.declared.key.BoardKey.{BoardKey}
use Rattle.cg_moves.specs.declared.planes.Planes.{Planes}
use Rattle.cg_moves.specs.Grid.{Grid, IsGrid}
use Rattle.cg_moves.specs.PlaneBits.{ArePlanes, grid_by, index_of, plane_bit}
use Rattle.cg_moves.specs.Keys.{key_eq, key_of, word_of, words_of}
use Rattle.cg_moves.proofs.PlaneLemmas.{grid-is, plane-inside, plane-outside}
use Rattle.cg_moves.proofs.Same.{and-true, both-true}

-- ---- the words of cells

plane-first : (symbols cells : List ℕ) (c b : ℕ) → plane_bit symbols (c ∷ cells) b 0 ≡ bit_at (index_of symbols c) b
plane-first symbols cells c b = plane-inside symbols (c ∷ cells) b 0 (omega arith)

plane-rest : (symbols cells : List ℕ) (c b i : ℕ) → plane_bit symbols (c ∷ cells) b (suc i) ≡ plane_bit symbols cells b i
plane-rest symbols cells c b i = grind (arith, nat_tests, leb_tells, plane-outside, plane-inside)

word-bits : (symbols cells : List ℕ) (b i : ℕ) → bit_at (word_of symbols b cells) i ≡ plane_bit symbols cells b i
word-bits symbols [] b i = bit_at-zero i ∙ sym (plane-outside symbols [] b i (omega arith))
word-bits symbols (c ∷ cells) b zero = grind (arith, nat_tests, bit_at-lt, bit_at_lowest, plane-first)
word-bits symbols (c ∷ cells) b (suc i) = grind (arith, nat_tests, bit_at-lt, bit_at-suc, plane-rest, word-bits symbols cells b i)

words-are : (symbols cells : List ℕ) → ArePlanes symbols cells (words_of symbols cells)
words-are symbols cells = record {
  a = word-bits symbols cells 0;
  b = word-bits symbols cells 1;
  c = word-bits symbols cells 2;
  d = word-bits symbols cells 3;
}

-- no other words are those of the cells
pub only-words : (symbols cells : List ℕ) (w : Planes) → ArePlanes symbols cells w → w ≡ words_of symbols cells
only-words symbols cells w are =
    let a = same_from_bits w.a (word_of symbols 0 cells) (λ i. are.a i ∙ sym (word-bits symbols cells 0 i)) in
    let b = same_from_bits w.b (word_of symbols 1 cells) (λ i. are.b i ∙ sym (word-bits symbols cells 1 i)) in
    let c = same_from_bits w.c (word_of symbols 2 cells) (λ i. are.c i ∙ sym (word-bits symbols cells 2 i)) in
    let d = same_from_bits w.d (word_of symbols 3 cells) (λ i. are.d i ∙ sym (word-bits symbols cells 3 i)) in
    λ i. record { a = a i; b = b i; c = c i; d = d i }

-- ---- the test of keys

pub key_eq-back : (j k : BoardKey) → key_eq j k ≡ true → j ≡ k
key_eq-back j k e = grind (arith, nat_tests, and-true, eqb-true)

pub key_eq-refl : (k : BoardKey) → key_eq k k ≡ true
key_eq-refl k = grind (arith, nat_tests, both-true, eq-eqb)

pub key_eq-same : (j k : BoardKey) → j ≡ k → key_eq j k ≡ true
key_eq-same j k e = ap (key_eq j) (sym e) ∙ key_eq-refl j

-- ---- boards by their keys

-- boards with one key and the same symbols are one board
pub one-key : (p q : Grid) → IsGrid p → IsGrid q → key_of p ≡ key_of q → q.symbols ≡ p.symbols → q ≡ p
one-key p q g h e f =
    sym (grid-is q q.symbols (words_of q.symbols q.cells) refl h (words-are q.symbols q.cells))
    ∙ sym (ap (λ (k : BoardKey). grid_by k.rows k.columns q.symbols k.planes) e)
    ∙ grid-is p q.symbols (words_of p.symbols p.cells) f g (words-are p.symbols p.cells)

-- ---- the number of a key

pub number-few : (a b c d e f : ℕ) → a < 18446744073709551616 → b < 18446744073709551616 → c < 18446744073709551616
    → d < 18446744073709551616 → e < 18446744073709551616 → f < 18446744073709551616
    → bit_xor (bit_xor (bit_xor a b) (bit_xor c d)) (bit_xor e f) / 4294967296 < 4294967296
number-few a b c d e f h i j k l m =
    let low = xor_lt 64 (bit_xor a b) (bit_xor c d) (xor_lt 64 a b h i) (xor_lt 64 c d j k) in
    let all = xor_lt 64 (bit_xor (bit_xor a b) (bit_xor c d)) (bit_xor e f) low (xor_lt 64 e f l m) in
    omega arith

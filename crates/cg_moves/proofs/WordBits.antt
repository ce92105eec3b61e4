-- Words by their bits.
use Rattle.std.proofs.Common.{◌≡◌, ◌≢◌, refl, Bool, true, false, not, ◌&&◌, ℕ, suc, ◌+◌, ◌-◌, ◌*◌, ◌/◌, ◌%◌, ◌^◌, ◌<◌, ◌≤◌}
use Rattle.std.proofs.Common.{◌==◌, inl, inr, if◌then◌else◌, ap, sym, ◌∙◌, arith, bit_and, bit_or, min, nat_lt, w64}
use Rattle.std.specs.Int.{bit_at}
use Rattle.std.proofs.lemmas.Bool.Decides.{eqb_tells, leb_tells, nat_tests}
use Rattle.std.proofs.Math.Nat.{mod-eq_of_lt, mod-lt, mod_self, suc-mod}
use Rattle.std.proofs.lemmas.Bool.{eq-eqb, le-ltb, lt-ltb}
use Rattle.std.proofs.lemmas.Nat.{pow_pos, shr-shr}
use Rattle.std.proofs.lemmas.Nat.Bits.{bit_at-lt, bit_at-zero, bit_at_above, bit_at_and, bit_at_cat_high, bit_at_cat_low, bit_at_clear_other}
use Rattle.std.proofs.lemmas.Nat.Bits.{bit_at_clear_same, bit_at_not, bit_at_ones, bit_at_ones_above, bit_at_set_other, bit_at_set_same, ones_shr}
use Rattle.cg_moves.specs.Words.{IsWithBit, Marks}

-- what a word is with a bit, where it has that bit at the place and its own elsewhere
with_bit : (word new place bit i : ℕ) → bit_at new place ≡ bit → (i ≢ place → bit_at new i ≡ bit_at word i)
    → bit_at new i ≡ (if i == place then bit else bit_at word i)
with_bit word new place bit i here others = grind (arith, nat_tests, eqb_tells)

-- the word `word & !(1 << place)`
abbrev pub cleared : ℕ → ℕ → ℕ
cleared word place = bit_and word (18446744073709551615 - 1 * 2 ^ place % 18446744073709551616)

-- the word `word | 1 << place`
abbrev pub raised : ℕ → ℕ → ℕ
raised word place = bit_or word (1 * 2 ^ place % 18446744073709551616)

pub bit_cleared : (word place bit : ℕ) → word < 2 ^ 64 → place < 64 → bit ≡ 0 → IsWithBit word (cleared word place) place bit
bit_cleared word place bit fits within e i =
    with_bit word (cleared word place) place bit i (bit_at_clear_same w64 word place within ∙ sym e) others
  where
    others : i ≢ place → bit_at (cleared word place) i ≡ bit_at word i
    others n = elim (leb_tells 64 i) [
      | inl h ↦ (let none = bit_at_above word 64 i fits h.1 in
          let both = bit_at_and word (18446744073709551615 - 1 * 2 ^ place % 18446744073709551616) i in
          omega arith)
      | inr h ↦ bit_at_clear_other w64 word place within i h.1 n
    ]

pub bit_raised : (word place bit : ℕ) → place < 64 → bit ≡ 1 → IsWithBit word (raised word place) place bit
bit_raised word place bit within e i =
    with_bit word (raised word place) place bit i (bit_at_set_same w64 word place within ∙ sym e)
    (bit_at_set_other w64 word place within i)

-- ---- words by tests of their places

abbrev one : Bool → ℕ
one t = if t then 1 else 0

both : (s t : Bool) → min (if s then 1 else 0) (if t then 1 else 0) ≡ (if s && t then 1 else 0)
both true true = refl
both true false = refl
both false true = refl
both false false = refl

without : (s t : Bool) → min (if s then 1 else 0) (1 - (if t then 1 else 0)) ≡ (if s && not t then 1 else 0)
without true true = refl
without true false = refl
without false true = refl
without false false = refl

module _ (a b : ℕ) (p q : ℕ → Bool) (are : Marks a p) (others : Marks b q) where
  pub marks_both : Marks (bit_and a b) (λ i. p i && q i)
  marks_both i = bit_at_and a b i ∙ ap (λ z. min z (bit_at b i)) (are i) ∙ ap (min (if p i then 1 else 0)) (others i) ∙ both (p i) (q i)

  -- the word `a & !b`
  pub marks_without : a < 2 ^ 64 → b < 2 ^ 64 → Marks (bit_and a (18446744073709551615 - b)) (λ i. p i && not (q i))
  marks_without fits below i = elim (leb_tells 64 i) [
    | inl h ↦ (let none : bit_at a i ≡ 0 = bit_at_above a 64 i fits h.1 in
        let k = bit_at_and a (18446744073709551615 - b) i in
        k ∙ ap (λ z. min z (bit_at (18446744073709551615 - b) i)) none ∙ least (bit_at (18446744073709551615 - b) i)
        ∙ no (p i) (q i) (sym (are i) ∙ none))
    | inr h ↦ bit_at_and a (18446744073709551615 - b) i ∙ ap (λ z. min z (bit_at (18446744073709551615 - b) i)) (are i)
        ∙ ap (min (if p i then 1 else 0)) (bit_at_not w64 b i below h.1 ∙ ap (λ z. 1 - z) (others i))
        ∙ without (p i) (q i)
  ]
    where
      least : (n : ℕ) → min 0 n ≡ 0
      least n = omega arith

      no : (s t : Bool) → one s ≡ one false → one false ≡ one (s && not t)
      no true t e = absurd (omega (arith, e))
      no false t e = refl

-- another test that passes at the same places
pub marks_same : (a : ℕ) (p q : ℕ → Bool) → ((i : ℕ) → p i ≡ q i) → Marks a p → Marks a q
marks_same a p q same are i = are i ∙ ap (λ t. if t then 1 else 0) (same i)

-- ---- shifts

low-bits : (n i : ℕ) → i < 64 → bit_at (n % 2 ^ 64) i ≡ bit_at n i
low-bits n i l =
    let e : n / 2 ^ 64 * 2 ^ 64 + n % 2 ^ 64 ≡ n = omega arith in
    sym (bit_at_cat_low (n / 2 ^ 64) 64 (n % 2 ^ 64) i l) ∙ ap (λ z. bit_at z i) e

pub shifted_on_first : (word by i : ℕ) → i < by → by < 64 → bit_at (word * 2 ^ by % 18446744073709551616) i ≡ 0
shifted_on_first word by i l few =
    let e : word * 2 ^ by + 0 ≡ word * 2 ^ by = omega arith in
    low-bits (word * 2 ^ by) i (omega arith) ∙ ap (λ z. bit_at z i) (sym e) ∙ bit_at_cat_low word by 0 i l ∙ bit_at-zero i

pub shifted_on : (word by i : ℕ) → by ≤ i → i < 64 → bit_at (word * 2 ^ by % 18446744073709551616) i ≡ bit_at word (i - by)
shifted_on word by i l few =
    let e : word * 2 ^ by + 0 ≡ word * 2 ^ by = omega arith in
    low-bits (word * 2 ^ by) i few ∙ ap (λ z. bit_at z i) (sym e) ∙ bit_at_cat_high word by 0 i (pow_pos by) l

pub shifted_back : (word by i : ℕ) → bit_at (word / 2 ^ by) i ≡ bit_at word (i + by)
shifted_back word by i = grind (arith, nat_tests, shr-shr)

-- the tests after a shift
pub marks_moved_on : (word by result : ℕ) (p : ℕ → Bool) → result < 2 ^ 64 → Marks word p → ((i : ℕ) → i < by → bit_at result i ≡ 0)
    → ((i : ℕ) → by ≤ i → i < 64 → bit_at result i ≡ bit_at word (i - by))
    → Marks result (λ i. nat_lt i 64 && (not (nat_lt i by) && p (i - by)))
marks_moved_on word by result p fits are first others i = elim (leb_tells 64 i) [
  | inl h ↦ bit_at_above result 64 i fits h.1
      ∙ ap (λ t. if t && (not (nat_lt i by) && p (i - by)) then 1 else 0) (sym (le-ltb i 64 h.1))
  | inr h ↦ elim (leb_tells (suc i) by) [
    | inl k ↦ first i (omega (arith, k.1)) ∙ sym (inside h.1 true k.0)
    | inr k ↦ others i (omega (arith, k.1)) h.1 ∙ are (i - by) ∙ sym (inside h.1 false k.0)
  ]
]
  where
    inside : i < 64 → (b : Bool) → nat_lt i by ≡ b → one (nat_lt i 64 && (not (nat_lt i by) && p (i - by))) ≡ one (not b && p (i - by))
    inside l b e = ap (λ t. one (t && (not (nat_lt i by) && p (i - by)))) (lt-ltb i 64 l) ∙ ap (λ t. one (true && (not t && p (i - by)))) e

-- ---- masks

pub marks_all : (size : ℕ) → 1 ≤ size → size ≤ 64 → Marks (18446744073709551615 / 2 ^ (64 - size)) (λ i. nat_lt i size)
marks_all size some few i =
    let e : 64 - (64 - size) ≡ size = omega arith in
    let ones : 18446744073709551615 / 2 ^ (64 - size) ≡ 2 ^ size - 1 = ones_shr 64 (64 - size) (omega arith)
    ∙ ap (λ k. 2 ^ k - 1) e in
    ap (λ z. bit_at z i) ones ∙ elim (leb_tells size i) [
      | inl h ↦ bit_at_ones_above size i h.1 ∙ ap (λ t. if t then 1 else 0) (sym (le-ltb i size h.1))
      | inr h ↦ bit_at_ones size i h.1 ∙ ap (λ t. if t then 1 else 0) (sym (lt-ltb i size h.1))
    ]

pub matching_not : (word bit i : ℕ) → word < 2 ^ 64 → bit ≡ 0 → i < 64
    → bit_at (18446744073709551615 - word) i ≡ (if bit_at word i == bit then 1 else 0)
matching_not word bit i fits e l =
    let h = bit_at_not w64 word i fits l in
    let k = bit_at-lt word i in
    elim (eqb_tells (bit_at word i) bit) [
      | inl s ↦ (let one : bit_at (18446744073709551615 - word) i ≡ 1 = omega (arith, s.1) in
          one ∙ ap (λ t. if t then 1 else 0) (sym s.0))
      | inr s ↦ (let none : bit_at (18446744073709551615 - word) i ≡ 0 = omega (arith, s.1) in
          none ∙ ap (λ t. if t then 1 else 0) (sym s.0))
    ]

-- ---- the places whose four bits are these

abbrev equal_bit : ℕ → ℕ → ℕ
equal_bit x y = if x == y then 1 else 0

-- all four are alike where the numbers of these bits are
pub four_equal : (a b c d p q r s : ℕ) → a < 2 → b < 2 → c < 2 → d < 2 → p < 2 → q < 2 → r < 2 → s < 2
    → min (min (equal_bit a p) (equal_bit b q)) (min (equal_bit c r) (equal_bit d s))
    ≡ equal_bit (a + 2 * b + 4 * c + 8 * d) (p + 2 * q + 4 * r + 8 * s)
four_equal a b c d p q r s la lb lc ld lp lq lr ls = grind (arith, nat_tests)

-- ---- the cells of the first column

-- the next place isn't in the first column where this one isn't in the last
pub row_end : (columns i : ℕ) → 1 ≤ columns → ((i + 1) % columns == 0) ≡ not (nat_lt (i % columns + 1) columns)
row_end columns i some = grind (arith, nat_tests, suc-mod, leb_tells, mod-eq_of_lt, mod-lt, mod_self, eq-eqb, eqb_tells)

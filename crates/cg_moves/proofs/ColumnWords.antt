-- The cells of the first column in a word, twice as many rows at each step.
use Rattle.std.proofs.Common.{◌≡◌, ◌≢◌, ◌&&◌, ℕ, zero, suc, ◌+◌, ◌-◌, ◌*◌, ◌%◌, ◌<◌, ◌≤◌, ◌==◌, Bool, false}
use Rattle.std.proofs.Common.{inl, inr, if◌then◌else◌, ap, sym, ◌∙◌, arith, bit_and, bit_or, nat_lt}
use Rattle.std.specs.Int.{bit_at}
use Rattle.std.proofs.Math.Nat.{add-mul-mod_self_right, mod-eq_of_lt, zero-mod}
use Rattle.std.proofs.lemmas.Bool.{eq-eqb, le-ltb, lt-ltb}
use Rattle.std.proofs.lemmas.Bool.Decides.{eqb_tells, leb_tells, nat_tests}
use Rattle.std.proofs.lemmas.Nat.Bits.{bit_at-lt, bit_at-zero, bit_at_above, bit_at_and, bit_at_or}
use Rattle.cg_moves.specs.Words.{Marks}

-- a place before this height, and its column is the first
abbrev pub in_first : ℕ → ℕ → ℕ → Bool
in_first columns height i = nat_lt i height && (i % columns == 0)

abbrev one : Bool → ℕ
one b = if b then 1 else 0

near : (columns height i : ℕ) → i < height → in_first columns height i ≡ (i % columns == 0)
near columns height i h = ap (λ t. t && (i % columns == 0)) (lt-ltb i height h)

far : (columns height i : ℕ) → height ≤ i → in_first columns height i ≡ false
far columns height i h = ap (λ t. t && (i % columns == 0)) (le-ltb i height h)

-- the word has the cells of the first column before this height, as far as there are bits
pub record IsColumn (columns word height : ℕ) : Type 0 where
  pub many : ℕ
  pub height_is : height ≡ many * columns
  pub marks : (i : ℕ) → i < 64 → bit_at word i ≡ one (in_first columns height i)

pub one-row : (columns : ℕ) → 1 ≤ columns → IsColumn columns 1 columns
one-row columns some = record {
  many = 1;
  height_is = omega arith;
  marks = λ i few. go i few;
}
  where
    off : (k : ℕ) → bit_at 1 (suc k) ≡ 0
    off k = bit_at_above 1 1 (suc k) (omega arith) (omega arith)

    not_zero : (n : ℕ) → n ≢ 0 → (n == 0) ≡ false
    not_zero n h = elim (eqb_tells n 0) [ inl e ↦ absurd (h e.1) | inr e ↦ e.0 ]

    none : (i : ℕ) → 0 < i → in_first columns columns i ≡ false
    none i later = elim (leb_tells columns i) [
      | inl h ↦ far columns columns i h.1
      | inr h ↦ near columns columns i h.1 ∙ not_zero (i % columns)
          (let e = mod-eq_of_lt h.1 in omega (arith, e, later))
    ]

    go : (i : ℕ) → i < 64 → bit_at 1 i ≡ one (in_first columns columns i)
    go zero few = sym (ap one (near columns columns 0 (omega (arith, some)) ∙ eq-eqb (0 % columns) 0 (zero-mod columns)))
    go (suc k) few = off k ∙ sym (ap one (none (suc k) (omega arith)))

pub twice-rows : (columns word height on : ℕ) → IsColumn columns word height → ((i : ℕ) → i < height → bit_at on i ≡ 0)
    → ((i : ℕ) → height ≤ i → i < 64 → bit_at on i ≡ bit_at word (i - height))
    → IsColumn columns (bit_or word on) (height * 2)
twice-rows columns word height on old first others = record {
  many = old.many * 2;
  height_is = let e = old.height_is in omega (arith, e);
  marks = λ i few.
      let either = bit_at_or word on i in
      elim (leb_tells height i) [
        | inl h ↦
            let low = h.1 in
            let d : ℕ = i - height in
            let none : bit_at word i ≡ 0 = old.marks i few ∙ ap one (far columns height i low) in
            let is : bit_at (bit_or word on) i ≡ bit_at on i = (let z = bit_at-lt on i in omega (arith, either, none, z)) in
            let same : d % columns ≡ i % columns = column-same i low in
            is ∙ others i low few ∙ old.marks d (omega (arith, few)) ∙ ap one (ap2 i low same)
        | inr h ↦
            let below = h.1 in
            let none = first i below in
            let is : bit_at (bit_or word on) i ≡ bit_at word i = (let z = bit_at-lt word i in omega (arith, either, none, z)) in
            is ∙ old.marks i few
            ∙ ap one (near columns height i below ∙ sym (near columns (height * 2) i (omega (arith, below))))
      ];
}
  where
    column-same : (i : ℕ) → height ≤ i → (i - height) % columns ≡ i % columns
    column-same i low =
        let e : (i - height) + old.many * columns ≡ i = (let h = old.height_is in omega (arith, low, h)) in
        sym (add-mul-mod_self_right (i - height) old.many columns) ∙ ap (λ z. z % columns) e

    ap2 : (i : ℕ) → height ≤ i → (i - height) % columns ≡ i % columns
        → in_first columns height (i - height) ≡ in_first columns (height * 2) i
    ap2 i low same = grind (arith, nat_tests, leb_tells, far, near)

pub all-rows : (columns size word height mask : ℕ) → size ≤ 64 → size ≤ height → IsColumn columns word height
    → Marks mask (λ i. nat_lt i size) → Marks (bit_and word mask) (in_first columns size)
all-rows columns size word height mask fits enough is mask_is i =
    let both = bit_at_and word mask i in
    elim (leb_tells size i) [
      | inl h ↦
          let none : bit_at mask i ≡ 0 = mask_is i ∙ ap one (le-ltb i size h.1) in
          let off : bit_at (bit_and word mask) i ≡ 0 = omega (arith, both, none) in
          off ∙ sym (ap one (far columns size i h.1))
      | inr h ↦
          let below = h.1 in
          let some : bit_at mask i ≡ 1 = mask_is i ∙ ap one (lt-ltb i size below) in
          let kept : bit_at (bit_and word mask) i ≡ bit_at word i = (let z = bit_at-lt word i in omega (arith, both, some, z)) in
          kept ∙ is.marks i (omega (arith, below, fits))
          ∙ ap one (near columns height i (omega (arith, below, enough)) ∙ sym (near columns size i below))
    ]

pub no-rows : (columns size : ℕ) → size ≡ 0 → Marks 0 (in_first columns size)
no-rows columns size none i = bit_at-zero i ∙ sym (ap one (far columns size i (omega (arith, none))))

-- Going over the places at which a word has a 1, one after another: each is cleared, and what belongs to it is listed.
use Rattle.std.proofs.Common.{◌≡◌, ◌≢◌, refl, ℕ, zero, suc, ◌+◌, ◌<◌, ◌≤◌, inl, inr, List, [], ◌++◌}
use Rattle.std.proofs.Common.{append-nil, append_assoc, map, ap, sym, subst, ◌∙◌, arith, bit_or, ◌^◌}
use Rattle.std.specs.Int.{bit_at}
use Rattle.std.specs.List.{flat_map}
use Rattle.std.proofs.lemmas.Bool.Decides.{eqb_tells, nat_tests}
use Rattle.std.proofs.lemmas.List.{map-append}
use Rattle.std.proofs.lemmas.Nat.{le_or_l}
use Rattle.std.proofs.lemmas.Nat.Bits.{bit_at-lt, bit_at-zero, bit_at_or, same_from_bits}
use Rattle.cg_moves.specs.Rising.{counted}
use Rattle.cg_moves.specs.Words.{IsWithBit}
use Rattle.cg_moves.proofs.Counted.{counted-below, counted-from, same-or-not}
use Rattle.cg_moves.proofs.Members.{flat_map-agree}

-- a word with no 1 but where the other has one is not above it
pub within-le : (a b : ℕ) → ((k : ℕ) → bit_at a k ≡ 1 → bit_at b k ≡ 1) → a ≤ b
within-le a b w = subst (λ (z : ℕ). a ≤ z) (same_from_bits (bit_or a b) b bits) (le_or_l a b)
  where
    bits : (i : ℕ) → bit_at (bit_or a b) i ≡ bit_at b i
    bits i = grind (arith, nat_tests, bit_at_or, bit_at-lt, eqb_tells)

-- ---- a word with one place cleared

module _ (left new place : ℕ) (is : IsWithBit left new place 0) where
  cleared-here : bit_at new place ≡ 0
  cleared-here = grind (arith, nat_tests, eqb_tells)

  cleared-other : (i : ℕ) → i ≢ place → bit_at new i ≡ bit_at left i
  cleared-other i other = grind (arith, nat_tests, eqb_tells)

  cleared-kept : (i : ℕ) → bit_at new i ≡ 1 → bit_at left i ≡ 1
  cleared-kept i t = grind (arith, nat_tests, same-or-not, cleared-here, cleared-other)

  pub cleared-less : bit_at left place ≡ 1 → new < left
  cleared-less one =
      let most = within-le new left cleared-kept in
      let other : new ≢ left = λ e. (let none = sym (ap (λ w. bit_at w place) e) ∙ cleared-here in omega (arith, none, one)) in
      omega (arith, most, other)

-- ---- what belongs to the places

abbrev pub where_set : {Y : Type 0} → ℕ → List Y → List Y
where_set zero ys = []
where_set (suc b) ys = ys

-- n things in their order, of which the one at k belongs to the place of k
module _ {X Y : Type 0} (f : Y → X) (h : ℕ → List Y) (place : ℕ → ℕ) (n : ℕ) (Has : ℕ → Type 0) where
  abbrev pub at_bits : ℕ → ℕ → List Y
  at_bits word j = where_set (bit_at word (place j)) (h j)

  -- those of the places that are left are still to be listed behind these, and then all are; and so it is with each place left
  pub record AreListed (left : ℕ) (before now : List X) : Type 0 where
    pub fits : left < 2 ^ 64
    pub within : (i : ℕ) → bit_at left i ≡ 1 → Has i
    pub listed : now ++ map f (flat_map (at_bits left) (counted 0 n)) ≡ before ++ map f (flat_map h (counted 0 n))

  -- nothing belongs to the other places
  pub listed-none : (left : ℕ) (before now : List X) → now ≡ before → left < 2 ^ 64 → ((i : ℕ) → bit_at left i ≡ 1 → Has i)
      → ((j : ℕ) → bit_at left (place j) ≡ 0 → h j ≡ []) → AreListed left before now
  listed-none left before now same low each none = record {
    fits = low;
    within = each;
    listed = ap (λ z. z ++ map f (flat_map (at_bits left) (counted 0 n))) same
        ∙ ap (λ z. before ++ map f z) (flat_map-agree (at_bits left) h (counted 0 n)
        (λ j m. go (bit_at left (place j)) (h j) (none j)));
  }
    where
      go : (b : ℕ) (ys : List Y) → (b ≡ 0 → ys ≡ []) → where_set b ys ≡ ys
      go zero ys e = sym (e refl)
      go (suc b) ys e = refl

  -- the first of them, and then the others
  first-listed : (left new k i m : ℕ) → i ≤ k → k < i + m → bit_at left (place k) ≡ 1 → bit_at new (place k) ≡ 0
      → ((j : ℕ) → j < k → bit_at left (place j) ≡ 0)
      → ((j : ℕ) → j ≢ k → j < i + m → bit_at new (place j) ≡ bit_at left (place j))
      → flat_map (at_bits left) (counted i m) ≡ h k ++ flat_map (at_bits new) (counted i m)
  first-listed left new k i zero low high here gone before same = absurd (omega arith)
  first-listed left new k i (suc m) low high here gone before same =
      let others = flat_map (at_bits left) (counted (suc i) m) in
      let rest = flat_map (at_bits new) (counted (suc i) m) in
      elim (same-or-not i k) [
        | inl e ↦ (let agree : others ≡ rest = flat_map-agree (at_bits left) (at_bits new) (counted (suc i) m) (λ j o.
            let l = counted-from (suc i) m j o in
            let u = counted-below (suc i) m j o in
            ap (λ b. where_set b (h j)) (sym (same j (λ f. omega (arith, e, l, f)) (omega (arith, u))))) in
            ap (λ z. z ++ others) (ap (at_bits left) e ∙ ap (λ b. where_set b (h k)) here)
            ∙ ap (λ z. h k ++ z) (agree ∙ sym (ap (λ z. z ++ rest) (ap (at_bits new) e ∙ ap (λ b. where_set b (h k)) gone))))
        | inr other ↦ (let none = before i (omega (arith, low, other)) in
            ap (λ b. where_set b (h i) ++ others) none
            ∙ first-listed left new k (suc i) m (omega (arith, low, other)) (omega (arith, high)) here gone before
            (λ j a l. same j a (omega (arith, l)))
            ∙ ap (λ z. h k ++ z) (sym (ap (λ b. where_set b (h i) ++ rest) (same i other (omega arith) ∙ none))))
      ]

  pub listed-more : (left new k cell : ℕ) (before now more : List X) → k < n → place k ≡ cell → bit_at left cell ≡ 1
      → IsWithBit left new cell 0 → ((j : ℕ) → j < k → bit_at left (place j) ≡ 0)
      → ((j : ℕ) → j ≢ k → j < n → place j ≢ cell) → new < 2 ^ 64 → AreListed left before now
      → more ≡ now ++ map f (h k) → AreListed new before more
  listed-more left new k cell before now more inside at here is none apart low old put = record {
    fits = low;
    within = λ i t. old.within i (cleared-kept left new cell is i t);
    listed = ap (λ z. z ++ map f (flat_map (at_bits new) (counted 0 n))) put
        ∙ append_assoc now (map f (h k)) (map f (flat_map (at_bits new) (counted 0 n)))
        ∙ ap (λ z. now ++ z) (sym (ap (map f) (first-listed left new k 0 n (omega arith) (omega (arith, inside))
        (ap (bit_at left) at ∙ here) (ap (bit_at new) at ∙ cleared-here left new cell is) none
        (λ j other l. cleared-other left new cell is (place j) (apart j other (omega (arith, l)))))
        ∙ map-append f (h k) (flat_map (at_bits new) (counted 0 n)))) ∙ old.listed;
  }

  pub listed-all : (left : ℕ) (before now : List X) → left ≡ 0 → AreListed left before now
      → now ≡ before ++ map f (flat_map h (counted 0 n))
  listed-all left before now none old = sym (ap (λ z. now ++ map f z) (go 0 n) ∙ append-nil now) ∙ old.listed
    where
      go : (i m : ℕ) → flat_map (at_bits left) (counted i m) ≡ []
      go i zero = refl
      go i (suc m) =
          ap (λ b. where_set b (h i) ++ flat_map (at_bits left) (counted (suc i) m))
          (ap (λ w. bit_at w (place i)) none ∙ bit_at-zero (place i)) ∙ go (suc i) m

-- The search at a scale, one scale coarser, and at the coarsest scale at which a unit lies between the ends.
use Rattle.std.proofs.Common.{◌≡◌, refl, ℕ, ◌+◌, ◌-◌, ◌%◌, ◌<◌, ◌≤◌, arith, zero, suc, Bool, true, false}
use Rattle.std.proofs.Common.{ap, sym, ◌∙◌, ℤ, pos, negsuc, ◌+ℤ◌, ◌≤ℤ◌, ◌<ℤ◌, unsigned_abs, ◌⊎◌, inl, inr}
use Rattle.std.proofs.lemmas.Int.{ints}
use Rattle.std.specs.Prelude.{Option, Some, None, if◌then◌else◌}
use lib.Signed.{lt_z}
use Rattle.cg_dyadic.specs.Number.{Number, between, half, is_even, ratio, whole}
use Rattle.cg_dyadic.specs.Search.{AtLeast, AtMost, AtScale, Coarsest, FoundAt, coarse_high, coarse_low}
use Rattle.cg_dyadic.specs.Search.{crossed, half_of_high, half_of_low, high_at, low_at, nearest}
use Rattle.cg_dyadic.specs.Simplest.{NoOptionPasses}
use Rattle.cg_dyadic.specs.Units.{units}
use Rattle.cg_dyadic.proofs.Integers.{even_half, from_lt_z, half_floor, lt_cases, not_lt_z}
use Rattle.cg_dyadic.proofs.Scale.{units-between, units-suc}
use Rattle.cg_dyadic.proofs.SumGap.{exp-lefts, exp-rights, units-lefts, units-rights}
use Rattle.cg_dyadic.proofs.Truth.{false-from}

-- ---- one scale coarser

least_half : (a : Option ℤ) (u v : ℤ) → v ≡ u +ℤ u → AtLeast a v → AtLeast (half_of_low a) u
least_half None u v e h = tt
least_half (Some a) u v e h = let f = half_floor (a +ℤ pos 1) in omega (arith, ints)

fine_low : (a : Option ℤ) (u v : ℤ) → v ≡ u +ℤ u → AtLeast (half_of_low a) u → AtLeast a v
fine_low None u v e h = tt
fine_low (Some a) u v e h = let f = half_floor (a +ℤ pos 1) in omega (arith, ints)

most_half : (b : Option ℤ) (u v : ℤ) → v ≡ u +ℤ u → AtMost b v → AtMost (half_of_high b) u
most_half None u v e h = tt
most_half (Some b) u v e h = let f = half_floor b in omega (arith, ints)

fine_high : (b : Option ℤ) (u v : ℤ) → v ≡ u +ℤ u → AtMost (half_of_high b) u → AtMost b v
fine_high None u v e h = tt
fine_high (Some b) u v e h = let f = half_floor b in omega (arith, ints)

pub coarser : (s : ℕ) (a b : Option ℤ) (test : Number → Bool) → AtScale (suc s) a b test → AtScale s (half_of_low a) (half_of_high b) test
coarser s a b test h = record {
  low = λ x p t. least_half a (units s x) (units (suc s) x) (units-suc s x p) (h.low x (omega arith) t);
  high = λ x p t. most_half b (units s x) (units (suc s) x) (units-suc s x p) (h.high x (omega arith) t);
  passes = λ x p t u. h.passes x (omega arith) (fine_low a (units s x) (units (suc s) x) (units-suc s x p) t) (fine_high b (units s x) (units (suc s) x) (units-suc s x p) u);
}

-- and d scales coarser
pub coarser_by : (d s : ℕ) (a b : Option ℤ) (test : Number → Bool) → AtScale (d + s) a b test → AtScale s (coarse_low d a) (coarse_high d b) test
coarser_by zero s a b test h =
    let e : 0 + s ≡ s = omega arith in
    rw e at h
coarser_by (suc d) s a b test h =
    let e : suc d + s ≡ d + suc s = omega arith in
    coarser s (coarse_low d a) (coarse_high d b) test (coarser_by d (suc s) a b test (rw e at h))

-- ---- the integer of least size

-- what the nearest integer is
record Nearest (a b : Option ℤ) (m : ℤ) : Type 0 where
  at_least : AtLeast a m
  at_most : AtMost b m
  below : (u : ℤ) → pos 0 <ℤ m → u +ℤ pos 1 ≡ m → ¬ AtLeast a u
  above : m <ℤ pos 0 → ¬ AtMost b (m +ℤ pos 1)

pick : (c : Bool) (m n : ℤ) → c ≡ true → (if c then m else n) ≡ m
pick c m n e = rw e refl

skip : (c : Bool) (m n : ℤ) → c ≡ false → (if c then m else n) ≡ n
skip c m n e = rw e refl

near_as : (a b : Option ℤ) (m n : ℤ) → m ≡ n → Nearest a b n → Nearest a b m
near_as a b m n e h = rw e h

nearest-is : (a b : Option ℤ) → crossed a b ≡ false → Nearest a b (nearest a b)
nearest-is None None h = record { at_least = tt; at_most = tt; below = λ u k e. absurd (omega (arith, ints)); above = λ k. absurd (omega (arith, ints)) }
nearest-is (Some a) None h = elim (lt_cases (pos 0) a) [
  | inl e ↦ near_as (Some a) None _ a (pick (lt_z (pos 0) a) a (pos 0) e) (let l = from_lt_z (pos 0) a e in
      record { at_least = omega (arith, ints); at_most = tt; below = λ u k e j. omega (arith, ints); above = λ k. absurd (omega (arith, ints)) })
  | inr e ↦ near_as (Some a) None _ (pos 0) (skip (lt_z (pos 0) a) a (pos 0) e) (let l = not_lt_z (pos 0) a e in
      record { at_least = omega (arith, ints); at_most = tt; below = λ u k e. absurd (omega (arith, ints)); above = λ k. absurd (omega (arith, ints)) })
]
nearest-is None (Some b) h = elim (lt_cases b (pos 0)) [
  | inl e ↦ near_as None (Some b) _ b (pick (lt_z b (pos 0)) b (pos 0) e) (let l = from_lt_z b (pos 0) e in
      record { at_least = tt; at_most = omega (arith, ints); below = λ u k e. absurd (omega (arith, ints)); above = λ k j. omega (arith, ints) })
  | inr e ↦ near_as None (Some b) _ (pos 0) (skip (lt_z b (pos 0)) b (pos 0) e) (let l = not_lt_z b (pos 0) e in
      record { at_least = tt; at_most = omega (arith, ints); below = λ u k e. absurd (omega (arith, ints)); above = λ k. absurd (omega (arith, ints)) })
]
nearest-is (Some a) (Some b) h = let o = not_lt_z b a h in elim (lt_cases (pos 0) a) [
  | inl e ↦ near_as (Some a) (Some b) _ a (pick (lt_z (pos 0) a) a (if lt_z b (pos 0) then b else pos 0) e) (let l = from_lt_z (pos 0) a e in
      record { at_least = omega (arith, ints); at_most = omega (arith, ints); below = λ u k e j. omega (arith, ints); above = λ k. absurd (omega (arith, ints)) })
  | inr e ↦ let l = not_lt_z (pos 0) a e in elim (lt_cases b (pos 0)) [
    | inl f ↦ near_as (Some a) (Some b) _ b (skip (lt_z (pos 0) a) a (if lt_z b (pos 0) then b else pos 0) e ∙ pick (lt_z b (pos 0)) b (pos 0) f) (let k = from_lt_z b (pos 0) f in
        record { at_least = omega (arith, ints); at_most = omega (arith, ints); below = λ u k e. absurd (omega (arith, ints)); above = λ k j. omega (arith, ints) })
    | inr f ↦ near_as (Some a) (Some b) _ (pos 0) (skip (lt_z (pos 0) a) a (if lt_z b (pos 0) then b else pos 0) e ∙ skip (lt_z b (pos 0)) b (pos 0) f) (let k = not_lt_z b (pos 0) f in
        record { at_least = omega (arith, ints); at_most = omega (arith, ints); below = λ u k e. absurd (omega (arith, ints)); above = λ k. absurd (omega (arith, ints)) })
  ]
]

whole_simplest : (a b : Option ℤ) (test : Number → Bool) (m : ℤ) → AtScale 0 a b test → Nearest a b m → NoOptionPasses test (whole m)
whole_simplest a b test (pos zero) h n = record {
  passes = h.passes (whole (pos zero)) (omega arith) n.at_least n.at_most;
  no_left = λ y w. absurd w;
  no_right = λ y w. absurd w;
}
whole_simplest a b test (pos (suc m)) h n = record {
  passes = h.passes (whole (pos (suc m))) (omega arith) n.at_least n.at_most;
  no_left = λ y w. elim w [
    | inl e ↦ ap test e ∙ false-from (test (whole (pos m))) (λ t. n.below (pos m) (omega (arith, ints)) (omega (arith, ints)) (h.low (whole (pos m)) (omega arith) t))
    | inr w ↦ absurd w
  ];
  no_right = λ y w. absurd w;
}
whole_simplest a b test (negsuc m) h n = record {
  passes = h.passes (whole (negsuc m)) (omega arith) n.at_least n.at_most;
  no_left = λ y w. absurd w;
  no_right = λ y w. elim w [
    | inl e ↦ ap test e ∙ false-from (test (whole (negsuc m +ℤ pos 1))) (λ t. n.above (omega (arith, ints)) (h.high (whole (negsuc m +ℤ pos 1)) (omega arith) t))
    | inr w ↦ absurd w
  ];
}

pub found_whole : (a b : Option ℤ) (test : Number → Bool) → crossed a b ≡ false → AtScale 0 a b test → FoundAt test (nearest a b) 0
found_whole a b test c h = record { lowest = inl refl; simplest = whole_simplest a b test (nearest a b) h (nearest-is a b c) }

-- ---- an odd number of units

-- the ends meet at an odd number of units
record Meet (a b : Option ℤ) (m : ℤ) : Type 0 where
  low : a ≡ Some m
  high : b ≡ Some m
  half_is : half m +ℤ half m +ℤ pos 1 ≡ m

meets : (a b : Option ℤ) → crossed a b ≡ false → crossed (half_of_low a) (half_of_high b) ≡ true → (m : ℤ) × Meet a b m × (nearest a b ≡ m)
meets None b c d = absurd (no b d)
  where
    no : (b : Option ℤ) → crossed None (half_of_high b) ≡ true → ⊥
    no None d = cc
    no (Some b) d = cc
meets (Some a) None c d = absurd (no a d)
  where
    no : (a : ℤ) → crossed (half_of_low (Some a)) None ≡ true → ⊥
    no a d = cc
meets (Some a) (Some b) c d =
    let o = not_lt_z b a c in
    let l = from_lt_z (half b) (half (a +ℤ pos 1)) d in
    let f = half_floor b in let g = half_floor (a +ℤ pos 1) in
    let same : b ≡ a = omega (arith, ints) in
    let k = half_floor a in
    let hh : half b ≡ half a = ap half same in
    let odd : half a +ℤ half a +ℤ pos 1 ≡ a = omega (arith, ints) in
    let e : Meet (Some a) (Some b) a = record { low = refl; high = ap Some same; half_is = odd } in
    (a, e, nearest_same a b same odd)
  where
    nearest_same : (a b : ℤ) → b ≡ a → half a +ℤ half a +ℤ pos 1 ≡ a → nearest (Some a) (Some b) ≡ a
    nearest_same a b e odd = elim (lt_cases (pos 0) a) [
      | inl p ↦ pick (lt_z (pos 0) a) a (if lt_z b (pos 0) then b else pos 0) p
      | inr p ↦ let l = not_lt_z (pos 0) a p in elim (lt_cases b (pos 0)) [
        | inl q ↦ skip (lt_z (pos 0) a) a (if lt_z b (pos 0) then b else pos 0) p ∙ pick (lt_z b (pos 0)) b (pos 0) q ∙ e
        | inr q ↦ let k = not_lt_z b (pos 0) q in absurd (omega (arith, ints))
      ]
    ]

between_is : (m : ℤ) (k : ℕ) → half m +ℤ half m +ℤ pos 1 ≡ m → ratio m (suc k) ≡ between (half m) k
between_is m k h = elim (even_or_odd m) [
  | inl e ↦ let f = even_half m e in absurd (omega (arith, ints))
  | inr e ↦ pick_number (is_even m) (ratio (half m) k) (between (half m) k) e
]
  where
    even_or_odd : (m : ℤ) → (is_even m ≡ true) ⊎ (is_even m ≡ false)
    even_or_odd m = cases (is_even m)
      where
        cases : (b : Bool) → (b ≡ true) ⊎ (b ≡ false)
        cases true = inl refl
        cases false = inr refl

    pick_number : (c : Bool) (x y : Number) → c ≡ false → (if c then x else y) ≡ y
    pick_number c x y e = rw e refl

some_least : (a : Option ℤ) (m u : ℤ) → a ≡ Some m → m ≤ℤ u → AtLeast a u
some_least a m u e h = rw e h

some_most : (b : Option ℤ) (m u : ℤ) → b ≡ Some m → u ≤ℤ m → AtMost b u
some_most b m u e h = rw e h

least_some : (a : Option ℤ) (m u : ℤ) → a ≡ Some m → AtLeast a u → m ≤ℤ u
least_some a m u e h = rw e at h

most_some : (b : Option ℤ) (m u : ℤ) → b ≡ Some m → AtMost b u → u ≤ℤ m
most_some b m u e h = rw e at h

between_simplest : (n : ℤ) (k : ℕ) (a b : Option ℤ) (test : Number → Bool) (m : ℤ) → half m ≡ n → AtScale (suc k) a b test → Meet a b m → NoOptionPasses test (between n k)
between_simplest n k a b test m e h q =
    let o = q.half_is in let u = units-between n k in
    record {
      passes = h.passes (between n k) (omega arith) (some_least a m _ q.low (omega (arith, ints))) (some_most b m _ q.high (omega (arith, ints)));
      no_left = λ y w. let i = exp-lefts (between n k) y w in let j = units-lefts (suc k) (between n k) y (omega arith) w in
          false-from (test y) (λ t. let l = least_some a m (units (suc k) y) q.low (h.low y (omega arith) t) in absurd (omega (arith, ints)));
      no_right = λ y w. let i = exp-rights (between n k) y w in let j = units-rights (suc k) (between n k) y (omega arith) w in
          false-from (test y) (λ t. let l = most_some b m (units (suc k) y) q.high (h.high y (omega arith) t) in absurd (omega (arith, ints)));
    }

pub found_between : (k : ℕ) (a b : Option ℤ) (test : Number → Bool) → crossed a b ≡ false → crossed (half_of_low a) (half_of_high b) ≡ true
    → AtScale (suc k) a b test → FoundAt test (nearest a b) (suc k)
found_between k a b test c d h =
    let (m, q, e) = meets a b c d in
    let r = between_is m k q.half_is in
    let s = between_simplest (half m) k a b test m refl h q in
    rw e (record { lowest = inr (odd m q.half_is); simplest = rw r s })
  where
    odd : (m : ℤ) → half m +ℤ half m +ℤ pos 1 ≡ m → unsigned_abs m % 2 ≡ 1
    odd (pos n) h = omega (arith, ints)
    odd (negsuc n) h = let g : suc n % 2 ≡ 1 = omega (arith, ints) in g

-- ---- for the code

at-coarser : (k : ℕ) (a b : Option ℤ) → suc k ≤ 41 → crossed (low_at k a) (high_at k b) ≡ true
    → crossed (half_of_low (low_at (suc k) a)) (half_of_high (high_at (suc k) b)) ≡ true
at-coarser k a b h c =
    let e : 41 - k ≡ suc (41 - suc k) = omega arith in
    ap (λ d. crossed (coarse_low d a) (coarse_high d b)) (sym e) ∙ c

at_own : (s : ℕ) (a b : Option ℤ) (test : Number → Bool) → s ≤ 41 → AtScale 41 a b test → AtScale s (low_at s a) (high_at s b) test
at_own s a b test k h =
    let e : 41 ≡ 41 - s + s = omega arith in
    coarser_by (41 - s) s a b test (rw e at h)

found_at : (s : ℕ) (a b : Option ℤ) → Coarsest a b s → (test : Number → Bool) → AtScale 41 a b test → FoundAt test (nearest (low_at s a) (high_at s b)) s
found_at zero a b c test h = found_whole (low_at 0 a) (high_at 0 b) test c.some (at_own 0 a b test c.within h)
found_at (suc k) a b c test h =
    found_between k (low_at (suc k) a) (high_at (suc k) b) test c.some (at-coarser k a b c.within (c.none k (omega arith))) (at_own (suc k) a b test c.within h)

pub found_nearest : (s : ℕ) (a b l m : Option ℤ) (r : ℤ) → Coarsest a b s → l ≡ low_at s a → m ≡ high_at s b → r ≡ nearest l m
    → (test : Number → Bool) → AtScale 41 a b test → FoundAt test r s
found_nearest s a b l m r c e f g test h =
    rw (g ∙ ap (λ z. nearest z m) e ∙ ap (λ z. nearest (low_at s a) z) f) (found_at s a b c test h)

-- at no scale coarser than s a unit lies between the ends
pub record CoarserCrossed (a b : Option ℤ) (s : ℕ) : Type 0 where
  pub within : s ≤ 41
  pub none : (t : ℕ) → t < s → crossed (low_at t a) (high_at t b) ≡ true

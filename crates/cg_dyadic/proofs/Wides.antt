-- Wall values in units of 1 / 2 ^ 60.
use Rattle.std.proofs.Common.{◌≡◌, refl, ℕ, ◌+◌, ◌-◌, ◌*◌, ◌^◌, ◌<◌, ◌≤◌, inl, inr, Bool, true, false, ℤ}
use Rattle.std.proofs.Common.{pos, ◌+ℤ◌, ◌-ℤ◌, ◌*ℤ◌, ◌≤ℤ◌, unsigned_abs, FitsSigned, ap, sym, ◌∙◌, arith}
use Rattle.std.proofs.lemmas.Int.{fits_signed_from_abs, ints, to_z-of_z, unsigned_abs-mul}
use Rattle.std.proofs.lemmas.Nat.{mul-le, pow-add, pow_pos}
use Rattle.std.proofs.Math.Pow.{pow_mono}
use mir.Syntax.{w128}
use mir.Val.{to_z, of_z}
use lib.Signed.{le_z, lt_z}
use Rattle.std.specs.Prelude.{IfOk}
use Rattle.std.proofs.Common.{Result, Ok, Err, List}
use Rattle.cg_dyadic.proofs.Results.{sign_of}
use Rattle.cg_dyadic.specs.Exact.{IsLowest, IsNegative, IsSum, number_text, signed_of, sum_num}
use Rattle.cg_dyadic.specs.Number.{InRange, Number, exp_of, half, num_of, number_le, ratio}
use Rattle.cg_dyadic.specs.Units.{doubled, units}
use Rattle.cg_dyadic.specs.Held.{IsWideWord}
use Rattle.cg_dyadic.specs.Wide.{InWide, places, terms_text}
use Rattle.cg_dyadic.proofs.Fractions.{abs_signed, fraction-at, fraction-ratio, fraction-unique, ratio-lowest, same_fraction}
use Rattle.cg_dyadic.proofs.Integers.{abs_tells, from_le_z, half_floor, le_or_gt, to_le_z}
use Rattle.cg_dyadic.proofs.Scale.{doubled-add, doubled-mul, exp-ratio, le-units, units-le, units-ratio, units_at}
use Rattle.cg_dyadic.proofs.Sums.{negative-exists, negative-units, sum-units}

pub ratio-units : (s : ℕ) (x : Number) → exp_of x ≤ s → ratio (units s x) s ≡ x
ratio-units s x h = fraction-unique (units s x) s (ratio (units s x) s) x (fraction-ratio (units s x) s) (fraction-at (units s x) s x h refl)

pub word : (n : ℤ) → unsigned_abs n < 2 ^ 126 → IsWideWord n
word n h = record { round = units-ratio n places; small = h }

-- the size of a number in units
size-units : (s : ℕ) (x : Number) → unsigned_abs (units s x) ≡ unsigned_abs (num_of x) * 2 ^ (s - exp_of x)
size-units s x = ap unsigned_abs (doubled-mul (s - exp_of x) (num_of x)) ∙ unsigned_abs-mul (num_of x) (pos (2 ^ (s - exp_of x)))

-- sixty places: 2 ^ 66 times 2 ^ 60
powers : (e : ℕ) → e ≤ places → 2 ^ e * 2 ^ (places - e) ≡ 2 ^ 60
unfolding places
powers e h = let i : e + (60 - e) ≡ 60 = omega arith in sym (pow-add 2 e (60 - e)) ∙ ap (λ n. 2 ^ n) i

below_by : (a q p : ℕ) → a * p < 2 ^ 66 * (q * p) → a < 2 ^ 66 * q
below_by a q p h = elim (le_or_gt (2 ^ 66 * q) a) [
  | inl k ↦ absurd (let m = mul-le (2 ^ 66 * q) p a p k (omega arith) in omega arith)
  | inr k ↦ k
]

pub in_wide : (x : Number) → exp_of x ≤ places → unsigned_abs (units places x) < 2 ^ 126 → InWide x
in_wide x h k = record {
  short = h;
  small = below_by (unsigned_abs (num_of x)) (2 ^ exp_of x) (2 ^ (places - exp_of x))
      (let s = size-units places x in let p = powers (exp_of x) h in omega arith);
}

pub word-wide : (n : ℤ) → unsigned_abs n < 2 ^ 126 → InWide (ratio n places)
word-wide n h = in_wide (ratio n places) (exp-ratio n places) (let e = ap unsigned_abs (units-ratio n places) in omega arith)

above_by : (a q p : ℕ) → a < 2 ^ 66 * q → 0 < p → a * p < 2 ^ 66 * (q * p)
above_by a q p h k = let m = mul-le (a + 1) p (2 ^ 66 * q) p (omega arith) (omega arith) in omega arith

pub wide-word : (x : Number) → InWide x → unsigned_abs (units places x) < 2 ^ 126
wide-word x w =
    let s = size-units places x in let p = powers (exp_of x) w.short in
    let m = above_by (unsigned_abs (num_of x)) (2 ^ exp_of x) (2 ^ (places - exp_of x)) w.small (pow_pos (places - exp_of x)) in
    omega arith

-- ---- numbers in range

small-size : (a p : ℕ) → a < 2 ^ 64 → p ≤ 2 ^ 60 → 0 < p → a * p < 2 ^ 124
small-size a p h k q = let m = mul-le (a + 1) p (2 ^ 64) (2 ^ 60) (omega arith) k in omega arith

pub places-enough : (x : Number) → InRange x → exp_of x ≤ places
unfolding places
places-enough x r = let s = r.short in omega arith

power-least : (d : ℕ) → d ≤ 60 → 2 ^ d ≤ 2 ^ 60
power-least d h = pow_mono h

pub units-in_range : (x : Number) → InRange x → unsigned_abs (units places x) < 2 ^ 124
unfolding places
units-in_range x r = let s = size-units places x in
    let m = small-size (unsigned_abs (num_of x)) (2 ^ (60 - exp_of x)) r.small (power-least (60 - exp_of x) (omega arith)) (pow_pos (60 - exp_of x)) in
    omega arith

pub units-small : (x : Number) → InRange x → unsigned_abs (units places x) < 2 ^ 126
units-small x r = let h = units-in_range x r in omega arith

pub units-fit : (x : Number) → InRange x → FitsSigned w128 (units places x)
units-fit x r = fits_signed_from_abs w128 (units places x) (let h = units-in_range x r in omega arith)

-- the product of the numerator and a power, through words of 128 bits
pub units-product : (x : Number) (r p : ℤ) → r ≡ num_of x → p ≡ pos (2 ^ (60 - exp_of x)) → InRange x
    → to_z w128 (of_z w128 r) *ℤ to_z w128 (of_z w128 p) ≡ units places x
unfolding places
units-product x r p is power k =
    let p-is : to_z w128 (of_z w128 p) ≡ pos (2 ^ (60 - exp_of x)) = ap (λ (y : ℤ). to_z w128 (of_z w128 y)) power
    ∙ to_z-of_z w128 (pos (2 ^ (60 - exp_of x))) (fits_signed_from_abs w128 (pos (2 ^ (60 - exp_of x)))
    (let q = power-least (60 - exp_of x) (omega arith) in omega arith)) in
    ap (λ (y : ℤ). y *ℤ to_z w128 (of_z w128 p)) (ap (λ (y : ℤ). to_z w128 (of_z w128 y)) is ∙ to_z-of_z w128 (num_of x) (fits_signed_from_abs w128 (num_of x) (let s = k.small in omega arith))) ∙ ap (λ (y : ℤ). num_of x *ℤ y) p-is
    ∙ sym (doubled-mul (60 - exp_of x) (num_of x))

-- ---- arithmetic in units

pub units-same : (s : ℕ) (x y : Number) → exp_of x ≤ s → exp_of y ≤ s → units s x ≡ units s y → x ≡ y
units-same s x y p q e = sym (ratio-units s x p) ∙ ap (λ n. ratio n s) e ∙ ratio-units s y q

pub sum-from : (s : ℕ) (x y z : Number) → exp_of x ≤ s → exp_of y ≤ s → exp_of z ≤ s → units s z ≡ units s x +ℤ units s y → IsSum x y z
sum-from s x y z p q r e =
    let w : Number = ratio (sum_num x y) (exp_of x + exp_of y) in
    let h = fraction-ratio (sum_num x y) (exp_of x + exp_of y) in
    let b = exp-ratio (sum_num x y) (exp_of x + exp_of y) in
    let a = sum-units (s + s) x y w (omega arith) (omega arith) (omega arith) h in
    let u = units_at (s + s) s x p (omega arith) in
    let v = units_at (s + s) s y q (omega arith) in
    let t = units_at (s + s) s z r (omega arith) in
    let d = doubled-add (s + s - s) (units s x) (units s y) in
    let f : units (s + s) z ≡ units (s + s) w = t ∙ ap (doubled (s + s - s)) e ∙ d ∙ ap (λ n. n +ℤ doubled (s + s - s) (units s y)) (sym u)
    ∙ ap (λ n. units (s + s) x +ℤ n) (sym v) ∙ sym a in
    let same : z ≡ w = units-same (s + s) z w (omega arith) (omega arith) f in
    rw same h

pub negative-from : (s : ℕ) (x z : Number) (n : ℤ) → exp_of x ≤ s → n +ℤ units s x ≡ pos 0 → z ≡ ratio n s → IsNegative x z
negative-from s x z n p e f =
    let y : Number = (negative-exists x).0 in
    let h = (negative-exists x).1 in
    let u = negative-units s x y h in
    let k : exp_of y ≤ s = (let g = h.exp in omega arith) in
    let m : n ≡ units s y = omega (arith, ints) in
    let same : z ≡ y = f ∙ ap (λ i. ratio i s) m ∙ ratio-units s y k in
    rw same h

bool_when : (b c : Bool) → (b ≡ true → c ≡ true) → (c ≡ true → b ≡ true) → b ≡ c
bool_when true c h k = sym (h refl)
bool_when false true h k = k refl
bool_when false false h k = refl

pub le-word : (s : ℕ) (x y : Number) → exp_of x ≤ s → exp_of y ≤ s → le_z (units s x) (units s y) ≡ number_le x y
le-word s x y p q = bool_when (le_z (units s x) (units s y)) (number_le x y)
    (λ h. units-le s x y p q (from_le_z (units s x) (units s y) h)) (λ h. to_le_z (units s x) (units s y) (le-units s x y p q h))

pub wide_word : (n : ℤ) → unsigned_abs n < 2 ^ 126 → to_z w128 (of_z w128 n) ≡ n
wide_word n h = to_z-of_z w128 n (fits_signed_from_abs w128 n (omega arith))

pub le-words : (x y : Number) (m n : ℤ) → m ≡ units places x → n ≡ units places y → unsigned_abs m < 2 ^ 126 → unsigned_abs n < 2 ^ 126
    → InWide x → InWide y → le_z (to_z w128 (of_z w128 m)) (to_z w128 (of_z w128 n)) ≡ number_le x y
le-words x y m n e f h k v w = ap (λ z. le_z z (to_z w128 (of_z w128 n))) (wide_word m h ∙ e) ∙ ap (λ z. le_z (units places x) z) (wide_word n k ∙ f)
    ∙ le-word places x y v.short w.short

-- the sum, as it was computed
pub sum-some : (x y z : Number) (n : ℤ) → InWide x → InWide y → n ≡ units places x +ℤ units places y → unsigned_abs n < 2 ^ 126 → z ≡ ratio n places
    → IsSum x y z × InWide z
sum-some x y z n v w e h f =
    let k = word-wide n h in (
      sum-from places x y z v.short w.short (let a = ap exp_of f in let b = exp-ratio n places in omega arith) (ap (units places) f ∙ units-ratio n places ∙ e),
      rw f k,
    )

pub sum-none : (x y : Number) (n : ℤ) → InWide x → InWide y → n ≡ units places x +ℤ units places y → (unsigned_abs n < 2 ^ 126 → ⊥)
    → (z : Number) → IsSum x y z → ¬ InWide z
sum-none x y n v w e h z s k =
    let u = sum-units places x y z v.short w.short k.short s in
    let a = ap unsigned_abs (u ∙ sym e) in
    let b = wide-word z k in
    h (omega arith)

-- half of it
pub half-some : (x z : Number) (n m : ℤ) → InWide x → n ≡ units places x → m +ℤ m ≡ n → unsigned_abs m < 2 ^ 126 → z ≡ ratio m places → IsSum z z x × InWide z
half-some x z n m v e d h f =
    let b = exp-ratio m places in let a = ap exp_of f in
    let u : units places z ≡ m = ap (units places) f ∙ units-ratio m places in (
      sum-from places z z x (omega arith) (omega arith) v.short (sym e ∙ sym d ∙ ap (λ i. i +ℤ m) (sym u) ∙ ap (λ i. units places z +ℤ i) (sym u)),
      rw f (word-wide m h),
    )

pub half-none : (x : Number) (n : ℤ) → InWide x → n ≡ units places x → ((half n +ℤ half n ≡ n) → ⊥) → (z : Number) → IsSum z z x → ¬ InWide z
half-none x n v e h z s k =
    let u = sum-units places z z x k.short k.short v.short s in
    let f = half_floor n in
    let a = f.0 in let b = f.1 in
    h (even (half n) n (units places z) (e ∙ u) a b)
  where
    even : (h n u : ℤ) → n ≡ u +ℤ u → (h +ℤ h) ≤ℤ n → n ≤ℤ (h +ℤ h +ℤ pos 1) → h +ℤ h ≡ n
    even h n u e a b = omega (arith, ints)

pub half-small : (n : ℤ) → unsigned_abs n < 2 ^ 126 → unsigned_abs (half n) < 2 ^ 126
half-small n h = let f = half_floor n in let a = f.0 in let b = f.1 in let x = abs_tells n in let y = abs_tells (half n) in omega (arith, ints)

pub minus_word : (n : ℤ) → unsigned_abs n < 2 ^ 126 → to_z w128 (of_z w128 (pos 0 -ℤ to_z w128 (of_z w128 n))) ≡ pos 0 -ℤ n
minus_word n h = ap (λ z. to_z w128 (of_z w128 (pos 0 -ℤ z))) (wide_word n h)
    ∙ wide_word (pos 0 -ℤ n) (let x = abs_tells n in let y = abs_tells (pos 0 -ℤ n) in omega (arith, ints))

pub plus_word : (m n : ℤ) → unsigned_abs m < 2 ^ 126 → unsigned_abs n < 2 ^ 126
    → to_z w128 (of_z w128 (to_z w128 (of_z w128 m) +ℤ to_z w128 (of_z w128 n))) ≡ m +ℤ n
plus_word m n h k = ap (λ z. to_z w128 (of_z w128 (z +ℤ to_z w128 (of_z w128 n)))) (wide_word m h)
    ∙ ap (λ z. to_z w128 (of_z w128 (m +ℤ z))) (wide_word n k)
    ∙ to_z-of_z w128 (m +ℤ n) (fits_signed_from_abs w128 (m +ℤ n) (let s = size m n in omega arith))
  where
    size : (a b : ℤ) → unsigned_abs (a +ℤ b) ≤ unsigned_abs a + unsigned_abs b
    size a b = let x = abs_tells a in let y = abs_tells b in let z = abs_tells (a +ℤ b) in omega (arith, ints)

pub minus_sum : (n u : ℤ) → n ≡ u → (pos 0 -ℤ n) +ℤ u ≡ pos 0
minus_sum n u e = omega (arith, ints)

-- ---- lowest terms

pub lowest_terms : (x : Number) (u : ℤ) (b : Bool) (m e : ℕ) → u ≡ units places x → exp_of x ≤ places → u ≡ signed_of b (unsigned_abs u)
    → m * 2 ^ 60 ≡ unsigned_abs u * 2 ^ e → IsLowest m e → (num_of x ≡ signed_of b m) × (exp_of x ≡ e)
unfolding places
lowest_terms x u b m e is h sign same low =
    let (p, q) = ratio-lowest (signed_of b m) e (rw (abs_signed b m) low) in
    let f = same_fraction b (unsigned_abs u) 60 m e (ratio (signed_of b m) e) same p q in
    let i = fraction-unique u 60 x (ratio (signed_of b m) e) (fraction-at u 60 x h (sym is)) (rw sign f) in
    (ap num_of i ∙ p, ap exp_of i ∙ q)

pub plus_word2 : (m n : ℤ) → unsigned_abs m < 2 ^ 126 → unsigned_abs n < 2 ^ 126
    → to_z w128 (of_z w128 (to_z w128 (of_z w128 (to_z w128 (of_z w128 m) +ℤ to_z w128 (of_z w128 n))))) ≡ m +ℤ n
plus_word2 m n h k = let w = plus_word m n h k in ap (λ z. to_z w128 (of_z w128 z)) w
    ∙ to_z-of_z w128 (m +ℤ n) (fits_signed_from_abs w128 (m +ℤ n) (let s = size m n in omega arith))
  where
    size : (a b : ℤ) → unsigned_abs (a +ℤ b) ≤ unsigned_abs a + unsigned_abs b
    size a b = let x = abs_tells a in let y = abs_tells b in let z = abs_tells (a +ℤ b) in omega (arith, ints)

pub terms_along : (x : Number) (n : ℤ) (e : ℕ) → n ≡ num_of x → e ≡ exp_of x → terms_text n e ≡ number_text x
terms_along x n e p q = ap (λ z. terms_text z e) p ∙ ap (terms_text (num_of x)) q

pub if_along : {T E : Type 0} (r : Result T E) (f : T → List ℕ) (a b : List ℕ) → a ≡ b → IfOk r (λ t. f t ≡ a) → IfOk r (λ t. f t ≡ b)
if_along (Ok t) f a b e h = h ∙ e
if_along (Err x) f a b e h = tt

pub places_is : (e : ℕ) → e ≤ places → e ≤ 60
unfolding places
places_is e h = h

pub no_true : (b : Bool) → b ≡ true → b ≡ false → ⊥
no_true b e f = let g = sym e ∙ f in cc

-- the lowest terms of what was halved, for its text
pub terms_of : (x : Number) (u m : ℤ) (k size e : ℕ) → u ≡ units places x → exp_of x ≤ places → m ≡ u → k ≡ unsigned_abs m
    → size * 2 ^ 60 ≡ k * 2 ^ e → IsLowest size e → (num_of x ≡ signed_of (lt_z m (pos 0)) size) × (exp_of x ≡ e)
terms_of x u m k size e is h word abs same low =
    let a : k ≡ unsigned_abs u = abs ∙ ap unsigned_abs word in
    lowest_terms x u (lt_z m (pos 0)) size e is h (sign_of u m (unsigned_abs u) word (sym (ap unsigned_abs word)))
    (same ∙ ap (λ z. z * 2 ^ e) a) low

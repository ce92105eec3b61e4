-- A number that is added to each number of a game keeps the structural order, and makes a canonical game the canonical
-- form of the sum.
use Rattle.std.proofs.Common.{Bool, true, false, ◌≡◌, refl, ℕ, ◌+◌, ◌-◌, ◌<◌, arith, zero, suc, inl, inr, ap, sym, ◌∙◌, ◌∷◌, map, ℤ, pos, ◌+ℤ◌, ◌-ℤ◌}
use Rattle.std.proofs.lemmas.Int.{ints}
use Rattle.cg_dyadic.specs.Exact.{IsSum, sum_num}
use Rattle.cg_dyadic.specs.Number.{Number, exp_of, number_cmp, number_le, ratio, whole}
use Rattle.cg_dyadic.specs.Units.{units}
use Rattle.cg_dyadic.proofs.Fractions.{fraction-at, fraction-ratio, fraction-unique}
use Rattle.cg_dyadic.proofs.Scale.{exp-ratio, units-ratio}
use Rattle.cg_dyadic.proofs.Sums.{doubled-zero, sum-commutes, sum-order, sum-units}
use Rattle.cg_dyadic.proofs.Truth.{false-from, true-or-not}
use Rattle.cg_form.specs.Canonical.{AllCanonical, Canonical, IsCanonicalForm, Reduced}
use Rattle.cg_form.specs.Game.{Among, Game, Games, more, none, number, options, to_list}
use Rattle.cg_form.specs.Order.{Equal, Le}
use Rattle.cg_form.specs.Shifted.{number_sum, shifted, shifted_all}
use Rattle.cg_form.specs.Side.{AtMost, far, near}
use Rattle.cg_form.specs.Simple.{NoNumber}
use Rattle.cg_form.specs.Size.{size}
use Rattle.cg_form.specs.Structure.{Before, Rises, game_cmp, list_cmp}
use Rattle.cg_form.specs.Sum.{sum}
use Rattle.cg_form.specs.Translate.{translated}
use Rattle.cg_form.proofs.Among.{among_map, among_mapped, carry}
use Rattle.cg_form.proofs.Bypass.{number_stays}
use Rattle.cg_form.proofs.Preorder.{at_left, at_right, equal_trans, le-cofinal, le_trans}
use Rattle.cg_form.proofs.Reduced.{canonical-far, canonical-left, canonical-near, canonical-right, reduced-apart, reduced-stays}
use Rattle.cg_form.proofs.Size.{size-lefts, size-rights}
use Rattle.cg_form.proofs.SumLaws.{le-sum_second}
use Rattle.cg_form.proofs.SumNumbers.{sums}
use Rattle.cg_form.proofs.Unique.{canonical_form-same}
use Rattle.cg_form.proofs.Translation.{left_cases, left_of, right_cases, right_of, translation}

-- ---- numbers

pub number_sum-is : (x y : Number) → IsSum x y (number_sum x y)
number_sum-is x y = fraction-ratio (sum_num x y) (exp_of x + exp_of y)

-- x + 0 is x
pub number_sum-zero : (x : Number) → number_sum x (whole (pos 0)) ≡ x
number_sum-zero x =
    let o : Number = whole (pos 0) in
    let z : Number = number_sum x o in
    let s : ℕ = exp_of x + exp_of z in
    let total : units s z ≡ units s x +ℤ units s o =
    sum-units s x o z (omega arith) (omega arith) (omega arith) (number_sum-is x o) in
    let nothing : units s o ≡ pos 0 = doubled-zero (s - 0) in
    let same : units s z ≡ units s x = omega (arith, ints) in
    fraction-unique (units s x) s z x (fraction-at (units s x) s z (omega arith) same)
    (fraction-at (units s x) s x (omega arith) refl)

number_sum-equal : (x y : Number) → Equal (number (number_sum x y)) (sum (number x) (number y))
number_sum-equal x y =
    let s : ℕ = exp_of x + exp_of y in
    let z : Number = number_sum x y in
    let a = exp-ratio (sum_num x y) s in
    let u = sum-units s x y z (omega arith) (omega arith) a (number_sum-is x y) in
    let r = sums s x y z (omega arith) (omega arith) a in
    (r.ge_to (omega (arith, ints)), r.le_to (omega (arith, ints)))

-- the number that is x less
difference : (x z : Number) → (w : Number) × Equal (sum (number x) (number w)) (number z)
difference x z =
    let s : ℕ = exp_of x + exp_of z in
    let n : ℤ = units s z -ℤ units s x in
    let a = exp-ratio n s in let b = units-ratio n s in
    let r = sums s x (ratio n s) z (omega arith) a (omega arith) in
    (ratio n s, (r.le_to (omega (arith, ints)), r.ge_to (omega (arith, ints))))

pub sum-no_number : (x : Number) (g : Game) → NoNumber g → NoNumber (sum (number x) g)
sum-no_number x g n z e =
    let (w, f) = difference x z in
    n w (
      le-sum_second (number w) g (number x)
          (le_trans (sum (number x) (number w)) (number z) (sum (number x) g) f.0 e.0),
      le-sum_second g (number w) (number x)
          (le_trans (sum (number x) g) (number z) (sum (number x) (number w)) e.1 f.1),
    )

-- ---- shifted lists

shifted-list : (x : Number) (gs : Games) → to_list (shifted_all x gs) ≡ map (λ a. shifted x a) (to_list gs)
shifted-list x none = refl
shifted-list x (more g gs) = ap (λ z. shifted x g ∷ z) (shifted-list x gs)

-- a Left option of a shifted node is a shifted Left option
list-case : (x : Number) (gs : Games) (b : Game) → Among b (to_list (shifted_all x gs))
    → (a : Game) × Among a (to_list gs) × (b ≡ shifted x a)
list-case x gs b m = among_map (λ a. shifted x a) b (to_list gs)
    (carry b (to_list (shifted_all x gs)) (map (λ a. shifted x a) (to_list gs)) (shifted-list x gs) m)

list-in : (x : Number) (gs : Games) (a : Game) → Among a (to_list gs) → Among (shifted x a) (to_list (shifted_all x gs))
list-in x gs a m = carry (shifted x a) (map (λ a. shifted x a) (to_list gs)) (to_list (shifted_all x gs))
    (sym (shifted-list x gs)) (among_mapped (λ a. shifted x a) a (to_list gs) m)

-- ---- the value of a shifted game

shifted_node : (x : Number) (ls rs : Games) → NoNumber (options ls rs)
    → ((a : Game) → Among a (to_list ls) → Equal (shifted x a) (sum (number x) a))
    → ((b : Game) → Among b (to_list rs) → Equal (shifted x b) (sum (number x) b))
    → Equal (shifted x (options ls rs)) (sum (number x) (options ls rs))
shifted_node x ls rs n l r =
    let g : Game = options ls rs in
    let f : Game → Game = λ a. sum (number x) a in
    let k : Game = shifted x g in
    let h : Game = translated x g in
    let e : Equal k h = (
      le-cofinal k h
          (λ t m. let (a, i, q) = list-case x ls t m in
          (f a, left_of x g a i, at_left t (shifted x a) (f a) q (l a i).0))
          (λ t m. let (a, i, q) = right_cases x g t m in
          (shifted x a, list-in x rs a i, at_right t (f a) (shifted x a) q (r a i).0)),
      le-cofinal h k
          (λ t m. let (a, i, q) = left_cases x g t m in
          (shifted x a, list-in x ls a i, at_left t (f a) (shifted x a) q (l a i).1))
          (λ t m. let (a, i, q) = list-case x rs t m in
          (f a, right_of x g a i, at_right t (shifted x a) (f a) q (r a i).1)),
    ) in
    let t = translation x g n in
    equal_trans k h (sum (number x) g) e (t.1, t.0)

shifted-equal_within : (n : ℕ) (x : Number) (g : Game) → size g < n → Canonical g
    → Equal (shifted x g) (sum (number x) g)
shifted-equal_within zero x g s c = absurd (omega arith)
shifted-equal_within (suc n) x (number y) s c = number_sum-equal x y
shifted-equal_within (suc n) x (options ls rs) s c =
    let g : Game = options ls rs in
    shifted_node x ls rs c.0.no_number
    (λ a m. let u = size-lefts g a m in shifted-equal_within n x a (omega arith) (canonical-left g a c m))
    (λ b m. let u = size-rights g b m in shifted-equal_within n x b (omega arith) (canonical-right g b c m))

pub shifted-equal : (x : Number) (g : Game) → Canonical g → Equal (shifted x g) (sum (number x) g)
shifted-equal x g c = shifted-equal_within (suc (size g)) x g (omega arith) c

-- shifting keeps the order, both ways
shifted-back : (x : Number) (a b : Game) → Canonical a → Canonical b → Le (shifted x a) (shifted x b) → Le a b
shifted-back x a b c d h =
    le-sum_second a b (number x) (le_trans (sum (number x) a) (shifted x a) (sum (number x) b) (shifted-equal x a c).1
    (le_trans (shifted x a) (shifted x b) (sum (number x) b) h (shifted-equal x b d).0))

shifted-no_number : (x : Number) (g : Game) → Canonical g → NoNumber g → NoNumber (shifted x g)
shifted-no_number x g c n z e = sum-no_number x g n z
    (equal_trans (number z) (shifted x g) (sum (number x) g) e (shifted-equal x g c))

-- ---- the structural order

number_le-translated : (x y z : Number) → number_le (number_sum x y) (number_sum x z) ≡ number_le y z
number_le-translated x y z =
    let order = sum-order y z x (number_sum x y) (number_sum x z) (sum-commutes x y (number_sum x y) (number_sum-is x y))
    (sum-commutes x z (number_sum x z) (number_sum-is x z)) in
    elim (true-or-not (number_le y z)) [
      | inl t ↦ order.0 t ∙ sym t
      | inr n ↦ false-from (number_le (number_sum x y) (number_sum x z)) (λ k. n (order.1 k))
          ∙ sym (false-from (number_le y z) n)
    ]

number_cmp-translated : (x y z : Number) → number_cmp (number_sum x y) (number_sum x z) ≡ number_cmp y z
number_cmp-translated x y z = rw (number_le-translated x y z, number_le-translated x z y) refl

mutual
  pub cmp-shifted : (x : Number) (g h : Game) → game_cmp (shifted x g) (shifted x h) ≡ game_cmp g h
  cmp-shifted x (number y) (number z) = number_cmp-translated x y z
  cmp-shifted x (number y) (options cs ds) = refl
  cmp-shifted x (options ls rs) (number z) = refl
  cmp-shifted x (options ls rs) (options cs ds) = rw (cmps-shifted x ls cs, cmps-shifted x rs ds) refl

  cmps-shifted : (x : Number) (gs hs : Games) → list_cmp (shifted_all x gs) (shifted_all x hs) ≡ list_cmp gs hs
  cmps-shifted x none none = refl
  cmps-shifted x none (more h hs) = refl
  cmps-shifted x (more g gs) none = refl
  cmps-shifted x (more g gs) (more h hs) = rw (cmp-shifted x g h, cmps-shifted x gs hs) refl

before_shifted : (x : Number) (g : Game) (gs : Games) → ((h : Game) → Among h (to_list gs) → Before g h)
    → (h : Game) → Among h (to_list (shifted_all x gs)) → Before (shifted x g) h
before_shifted x g gs f h m =
    let (a, i, e) = list-case x gs h m in
    rw e (cmp-shifted x g a ∙ f a i)

rises-shifted : (x : Number) (gs : Games) → Rises (to_list gs) → Rises (to_list (shifted_all x gs))
rises-shifted x none r = tt
rises-shifted x (more g gs) r = (before_shifted x g gs r.0, rises-shifted x gs r.1)

-- ---- reduced

near_case : (s : Bool) (x : Number) (ls rs : Games) (b : Game) → Among b (near s (shifted x (options ls rs)))
    → (a : Game) × Among a (near s (options ls rs)) × (b ≡ shifted x a)
near_case true x ls rs b m = list-case x ls b m
near_case false x ls rs b m = list-case x rs b m

far_case : (s : Bool) (x : Number) (ls rs : Games) (b : Game) → Among b (far s (shifted x (options ls rs)))
    → (a : Game) × Among a (far s (options ls rs)) × (b ≡ shifted x a)
far_case true x ls rs b m = list-case x rs b m
far_case false x ls rs b m = list-case x ls b m

-- shifting keeps the order, as either side sees it
side_back : (s : Bool) (x : Number) (a b : Game) → Canonical a → Canonical b → AtMost s (shifted x a) (shifted x b)
    → AtMost s a b
side_back true x a b c d h = shifted-back x a b c d h
side_back false x a b c d h = shifted-back x b a d c h

same_shifted : (s : Bool) (x : Number) (ls rs : Games) → Canonical (options ls rs)
    → (a b : Game) → Among a (near s (options ls rs)) → Among b (near s (options ls rs))
    → AtMost s (shifted x a) (shifted x b) → a ≡ b
same_shifted s x ls rs c a b m w h =
    let g : Game = options ls rs in
    reduced-apart s g c.0 a b m w (side_back s x a b (canonical-near s g a c m) (canonical-near s g b c w) h)

shifted_apart : (s : Bool) (x : Number) (ls rs : Games) → Canonical (options ls rs)
    → (a b : Game) → Among a (near s (shifted x (options ls rs))) → Among b (near s (shifted x (options ls rs)))
    → AtMost s a b → a ≡ b
shifted_apart s x ls rs c a b m w h =
    let (d, i, e) = near_case s x ls rs a m in
    let (q, j, f) = near_case s x ls rs b w in
    e ∙ ap (λ z. shifted x z) (same_shifted s x ls rs c d q i j (rw f at (rw e at h))) ∙ sym f

-- an option a that is the shifted d is irreversible: d is a number, or its options are shifted options
stays_at : (s : Bool) (x : Number) (ls rs : Games) → Canonical (options ls rs)
    → (d : Game) → Among d (near s (options ls rs)) → (a : Game) → a ≡ shifted x d
    → Among a (near s (shifted x (options ls rs))) → (b : Game) → Among b (far s a)
    → ¬ AtMost s b (shifted x (options ls rs))
stays_at s x ls rs c (number y) i a e m b w l =
    let g : Game = options ls rs in
    number_stays s (shifted x g) (shifted-no_number x g c c.0.no_number) (shifted_apart s x ls rs c) a
    (number_sum x y) e m b w l
stays_at s x ls rs c (options us vs) i a e m b w l =
    let g : Game = options ls rs in
    let d : Game = options us vs in
    let (q, j, f) = far_case s x us vs b (rw e at w) in
    reduced-stays s g c.0 d q i j (side_back s x q g (canonical-far s d q (canonical-near s g d c i) j) c (rw f at l))

shifted_stays : (s : Bool) (x : Number) (ls rs : Games) → Canonical (options ls rs)
    → (a b : Game) → Among a (near s (shifted x (options ls rs))) → Among b (far s a)
    → ¬ AtMost s b (shifted x (options ls rs))
shifted_stays s x ls rs c a b m w l =
    let (d, i, e) = near_case s x ls rs a m in stays_at s x ls rs c d i a e m b w l

shifted-reduced : (x : Number) (ls rs : Games) → Canonical (options ls rs) → Reduced (shifted x (options ls rs))
shifted-reduced x ls rs c = record {
  left_undominated = λ a m v. v.other (shifted_apart true x ls rs c a v.by m v.option v.worse);
  right_undominated = λ a m v. v.other (shifted_apart false x ls rs c a v.by m v.option v.worse);
  left_irreversible = λ a m v. shifted_stays true x ls rs c a v.through m v.answer v.back;
  right_irreversible = λ a m v. shifted_stays false x ls rs c a v.through m v.answer v.back;
  lefts_rise = rises-shifted x ls c.0.lefts_rise;
  rights_rise = rises-shifted x rs c.0.rights_rise;
  no_number = shifted-no_number x (options ls rs) c c.0.no_number;
}

mutual
  pub canonical-shifted : (x : Number) (g : Game) → Canonical g → Canonical (shifted x g)
  canonical-shifted x (number y) c = tt
  canonical-shifted x (options ls rs) c =
      (shifted-reduced x ls rs c, all_canonical-shifted x ls c.1, all_canonical-shifted x rs c.2)

  all_canonical-shifted : (x : Number) (gs : Games) → AllCanonical gs → AllCanonical (shifted_all x gs)
  all_canonical-shifted x none c = tt
  all_canonical-shifted x (more g gs) c = (canonical-shifted x g c.0, all_canonical-shifted x gs c.1)

-- a canonical game with a number added throughout is the canonical form of the sum
pub shifted-is_form : (x : Number) (g : Game) → Canonical g → IsCanonicalForm (sum (number x) g) (shifted x g)
shifted-is_form x g c = record { canonical = canonical-shifted x g c; equal = shifted-equal x g c }

-- and so it is what has to be that form
pub form_shifted : (x : Number) (g k : Game) → Canonical g → IsCanonicalForm (sum (number x) g) k → k ≡ shifted x g
form_shifted x g k c f = canonical_form-same (sum (number x) g) k (shifted x g) f (shifted-is_form x g c)

-- The stops of a game need no more binary places than its height.
use Rattle.std.proofs.Common.{◌≡◌, refl, ℕ, ◌<◌, ◌≤◌, arith, zero, suc, Bool, true, false, cond, ap, inl, inr, List, [], ◌∷◌, map, ℤ, pos, ◌+ℤ◌}
use Rattle.std.proofs.lemmas.Int.{ints}
use Rattle.cg_dyadic.specs.Number.{AmongNumbers, Number, NumberLe, between, exp_of, number_le, number_lefts, number_rights, ratio, weight, whole}
use Rattle.cg_dyadic.proofs.Integers.{le_or_gt}
use Rattle.cg_dyadic.proofs.Scale.{exp-ratio, le-units, units-between, units-left, units-suc}
use Rattle.cg_dyadic.proofs.Truth.{differ, true-or-not}
use Rattle.cg_dyadic.proofs.Values.{left-le_number, right-le_number}
use Rattle.cg_form.specs.Game.{Among, Game, Games, lefts, more, none, number, options, rights, to_list}
use Rattle.cg_form.specs.Greatest.{greatest_by}
use Rattle.cg_form.specs.Heights.{height, highest}
use Rattle.cg_form.specs.Order.{Equal, le}
use Rattle.cg_form.specs.Simple.{Decided, Decides, NoNumber}
use Rattle.cg_form.specs.Size.{size}
use Rattle.cg_form.specs.Stops.{Stops, greatest_number, least_number, stops, stops_by, stops_within}
use Rattle.cg_form.proofs.Numbers.{numbers-le}
use Rattle.cg_form.proofs.Order.{all-or-some}
use Rattle.cg_form.proofs.Preorder.{equal_refl, le_refl, le_trans}
use Rattle.cg_form.proofs.Simplicity.{Simplest, equal-fits, one_number, simplest-equal, simplest_within}
use Rattle.cg_form.proofs.Size.{size-lefts, size-rights}
use Rattle.cg_form.proofs.StopValues.{stops-are, stops_within-are}
use Rattle.cg_form.proofs.Stops.{LeftStop, RightStop}

height-list : (gs : Games) (a : Game) → Among a (to_list gs) → height a ≤ highest gs
height-list none a m = absurd m
height-list (more g gs) a (inl e) = let s : height a ≡ height g = ap height e in omega arith
height-list (more g gs) a (inr m) = let s = height-list gs a m in omega arith

pub not_number : (x : Number) → ¬ NoNumber (number x)
not_number x n = n x (le_refl (number x), le_refl (number x))

-- an option of a game that equals no number is lower
pub height-left : (g a : Game) → NoNumber g → Among a (lefts g) → height a < height g
height-left (number x) a n m = absurd (not_number x n)
height-left (options ls rs) a n m = let s = height-list ls a m in omega arith

pub height-right : (g a : Game) → NoNumber g → Among a (rights g) → height a < height g
height-right (number x) a n m = absurd (not_number x n)
height-right (options ls rs) a n m = let s = height-list rs a m in omega arith

-- ---- a number whose options both come near the options of the game

simplest_of : (g : Game) (x : Number) → Equal (number x) g → Simplest x g
simplest_of g x e =
    let (y, s) = simplest_within (suc (weight x)) x g (omega arith) (equal-fits x g e) in
    let f = simplest-equal y g s in
    let same : y ≡ x = one_number y x g f e in
    rw same at s

not_not_le : (p q : Number) → ¬ (¬ NumberLe p q) → NumberLe p q
not_not_le p q h = elim (true-or-not (number_le p q)) [ inl k ↦ k | inr k ↦ absurd (h k) ]

-- a Left option at least the Left option y of x, and its Right stop between y and x
left_near : (g : Game) (x y : Number) (f : Game → Number) → Equal (number x) g → AmongNumbers y (number_lefts x)
    → ((a : Game) → Among a (lefts g) → RightStop a (f a))
    → (a : Game) × Among a (lefts g) × NumberLe y (f a) × NumberLe (f a) x
left_near g x y f e m rs =
    let s = simplest_of g x e in
    elim (all-or-some (λ a. le (number y) a) (lefts g)) [
      | inl each ↦ absurd (s.left_misses y m (record {
        above = λ a k l. differ (le (number y) a) l (each a k);
        below = λ b k l. s.fits.below b k (le_trans b (number y) (number x) l (numbers-le y x (left-le_number x y m)));
      }))
      | inr (a, k, l) ↦ (
        a,
        k,
        not_not_le y (f a) (λ n. (rs a k).high y n l),
        not_not_le (f a) x (λ n. s.fits.above a k ((rs a k).low x n)),
      )
    ]

right_near : (g : Game) (x y : Number) (f : Game → Number) → Equal (number x) g → AmongNumbers y (number_rights x)
    → ((b : Game) → Among b (rights g) → LeftStop b (f b))
    → (b : Game) × Among b (rights g) × NumberLe x (f b) × NumberLe (f b) y
right_near g x y f e m ls =
    let s = simplest_of g x e in
    elim (all-or-some (λ b. le b (number y)) (rights g)) [
      | inl each ↦ absurd (s.right_misses y m (record {
        below = λ a k l. differ (le a (number y)) l (each a k);
        above = λ b k l. s.fits.above b k (le_trans (number x) (number y) b (numbers-le x y (right-le_number x y m)) l);
      }))
      | inr (b, k, l) ↦ (
        b,
        k,
        not_not_le x (f b) (λ n. s.fits.below b k ((ls b k).high x n)),
        not_not_le (f b) y (λ n. (ls b k).low y n l),
      )
    ]

-- n and n + 1 are not both even
parity : (n : ℤ) (j : ℕ) (p q : Number) → exp_of p ≤ j → exp_of q ≤ j → NumberLe (ratio n (suc j)) p
    → NumberLe p (between n (suc j)) → NumberLe (between n (suc j)) q → NumberLe q (ratio (n +ℤ pos 1) (suc j)) → ⊥
parity n j p q hp hq a b c d =
    let s : ℕ = suc (suc j) in
    let e = exp-ratio n (suc j) in let f = exp-ratio (n +ℤ pos 1) (suc j) in
    let u = units-left n (suc j) in let v = units-left (n +ℤ pos 1) (suc j) in let w = units-between n (suc j) in
    let a' = le-units s (ratio n (suc j)) p (omega arith) (omega arith) a in
    let b' = le-units s p (between n (suc j)) (omega arith) (omega arith) b in
    let c' = le-units s (between n (suc j)) q (omega arith) (omega arith) c in
    let d' = le-units s q (ratio (n +ℤ pos 1) (suc j)) (omega arith) (omega arith) d in
    let g = units-suc (suc j) p (omega arith) in let h = units-suc j p hp in
    let i = units-suc (suc j) q (omega arith) in let k = units-suc j q hq in
    omega (arith, ints)

-- a number that the game equals is no deeper than the game
exp_node : (ls rs : Games) (x : Number) (f h : Game → Number) → Equal (number x) (options ls rs)
    → ((a : Game) → Among a (to_list ls) → RightStop a (f a) × (exp_of (f a) ≤ height a))
    → ((b : Game) → Among b (to_list rs) → LeftStop b (h b) × (exp_of (h b) ≤ height b))
    → exp_of x ≤ height (options ls rs)
exp_node ls rs (whole n) f h e l r = omega arith
exp_node ls rs (between n zero) f h e l r = omega arith
exp_node ls rs (between n (suc j)) f h e l r = elim (le_or_gt (suc (suc j)) (height (options ls rs))) [
  | inl k ↦ omega arith
  | inr k ↦
      let g : Game = options ls rs in
      let (a, m, p, q) = left_near g (between n (suc j)) (ratio n (suc j)) f e (inl refl) (λ a m. (l a m).0) in
      let (b, w, u, v) = right_near g (between n (suc j)) (ratio (n +ℤ pos 1) (suc j)) h e (inl refl)
      (λ a m. (r a m).0) in
      let ha = height-list ls a m in let hb = height-list rs b w in
      let ea = (l a m).1 in let eb = (r b w).1 in
      absurd (parity n j (f a) (h b) (omega arith) (omega arith) p q u v)
]

exp_equal : (g : Game) (x : Number) (f h : Game → Number) → Equal (number x) g
    → ((a : Game) → Among a (lefts g) → RightStop a (f a) × (exp_of (f a) ≤ height a))
    → ((b : Game) → Among b (rights g) → LeftStop b (h b) × (exp_of (h b) ≤ height b))
    → exp_of x ≤ height g
exp_equal (number y) x f h e l r = let s : exp_of x ≡ exp_of y = ap exp_of
    (one_number x y (number y) e (equal_refl (number y))) in omega arith
exp_equal (options ls rs) x f h e l r = exp_node ls rs x f h e l r

pub record LowStops (g : Game) (s : Stops) : Type 0 where
  pub left : exp_of s.left ≤ height g
  pub right : exp_of s.right ≤ height g

-- the greatest of some numbers needs no more places than they
pub short_greatest : (le : Number → Number → Bool) (s : ℕ) (f : Game → Number) (gs : List Game)
    → ((a : Game) → Among a gs → exp_of (f a) ≤ s) → exp_of (greatest_by le (whole (pos 0)) (map f gs)) ≤ s
short_greatest le s f [] h = omega arith
short_greatest le s f (g ∷ []) h = h g (inl refl)
short_greatest le s f (g ∷ (i ∷ is)) h =
    let q : Number = greatest_by le (whole (pos 0)) (map f (i ∷ is)) in
    either (le (f g) q) q (f g) (short_greatest le s f (i ∷ is) (λ a m. h a (inr m))) (h g (inl refl))
  where
    either : (b : Bool) (x y : Number) → exp_of x ≤ s → exp_of y ≤ s → exp_of (cond b x y) ≤ s
    either true x y p q = p
    either false x y p q = q

pub low_from : (g : Game) (c : Decided g) (f h : Game → Number)
    → ((a : Game) → Among a (lefts g) → RightStop a (f a) × (exp_of (f a) ≤ height a))
    → ((b : Game) → Among b (rights g) → LeftStop b (h b) × (exp_of (h b) ≤ height b))
    → LowStops g (stops_by g c (record {
      left = greatest_number (map f (lefts g));
      right = least_number (map h (rights g));
    }))
low_from g (inl w) f h l r = let e = exp_equal g w.0 f h w.1 l r in record { left = e; right = e }
low_from g (inr n) f h l r =
    record {
      left = short_greatest number_le (height g) f (lefts g)
          (λ a m. let u = (l a m).1 in let v = height-left g a n m in omega arith);
      right = short_greatest (λ x y. number_le y x) (height g) h (rights g)
          (λ a m. let u = (r a m).1 in let v = height-right g a n m in omega arith);
    }

pub stops_within-low : (d : Decides) (n : ℕ) (g : Game) → size g < n → LowStops g (stops_within d n g)
unfolding stops_within
stops_within-low d zero g s = absurd (omega arith)
stops_within-low d (suc n) g s = low_from g (d g) (λ a. (stops_within d n a).right) (λ b. (stops_within d n b).left)
    (λ a m. let t = size-lefts g a m in
    ((stops_within-are d n a (omega arith)).right, (stops_within-low d n a (omega arith)).right))
    (λ b m. let t = size-rights g b m in
    ((stops_within-are d n b (omega arith)).left, (stops_within-low d n b (omega arith)).left))

pub stops-low : (d : Decides) (g : Game) → (exp_of (stops d g).left ≤ height g) × (exp_of (stops d g).right ≤ height g)
unfolding stops
stops-low d g = let s = stops_within-low d (suc (size g)) g (omega arith) in (s.left, s.right)

-- a number that a game equals
pub number-low : (d : Decides) (g : Game) (x : Number) → Equal (number x) g → exp_of x ≤ height g
number-low d g x e = exp_equal g x (λ a. (stops d a).right) (λ b. (stops d b).left) e
    (λ a m. ((stops-are d a).right, (stops-low d a).1)) (λ b m. ((stops-are d b).left, (stops-low d b).0))

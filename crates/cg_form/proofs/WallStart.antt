-- At t = 0 the walls of a game are its stops, so the left scaffold is at least the right one.
use Rattle.std.proofs.Common.{◌≡◌, refl, ℕ, ◌-◌, ◌<◌, ◌≤◌, arith, zero, suc, Bool, true, false, inl}
use Rattle.std.proofs.Common.{inr, ap, sym, ◌∙◌, List, [], ◌∷◌, map, cond, ℤ, pos, ◌+ℤ◌, ◌-ℤ◌, ◌≤ℤ◌}
use Rattle.std.proofs.lemmas.Int.{ints}
use lib.Signed.{le_z}
use Rattle.cg_dyadic.specs.Number.{Number, exp_of, number_le, whole}
use Rattle.cg_dyadic.specs.Units.{units}
use Rattle.cg_dyadic.proofs.Integers.{from_le_z, to_le_z}
use Rattle.cg_dyadic.proofs.Scale.{le-units, units-le}
use Rattle.cg_dyadic.proofs.Sums.{doubled-zero}
use Rattle.cg_form.specs.Game.{Among, Game, lefts, rights}
use Rattle.cg_form.specs.Greatest.{greater_by, greatest_by}
use Rattle.cg_form.specs.Heights.{height}
use Rattle.cg_form.specs.Simple.{Decided, Decides, NoNumber}
use Rattle.cg_form.specs.Size.{size}
use Rattle.cg_form.specs.Stops.{Stops, greatest_number, least_number, stops, stops_by, stops_within}
use Rattle.cg_form.specs.Walls.{Walls, greatest, least, scaffold, walls, walls_by, walls_within}
use Rattle.cg_form.proofs.Among.{map-agree}
use Rattle.cg_form.proofs.Cut.{same_when}
use Rattle.cg_form.proofs.Heights.{height-left, height-right, low_from, short_greatest, stops_within-low}
use Rattle.cg_form.proofs.Size.{size-lefts, size-rights}
use Rattle.cg_form.proofs.StopValues.{stops_from, stops_within-are}
use Rattle.cg_form.proofs.Stops.{stops-ordered}

-- ---- the greatest in units

le_z_units : (s : ℕ) (x y : Number) → exp_of x ≤ s → exp_of y ≤ s → number_le x y ≡ le_z (units s x) (units s y)
le_z_units s x y p q = same_when (number_le x y) (le_z (units s x) (units s y))
    (λ h. to_le_z (units s x) (units s y) (le-units s x y p q h))
    (λ h. units-le s x y p q (from_le_z (units s x) (units s y) h))

pull_cond : (s : ℕ) (b : Bool) (x y : Number) → units s (cond b x y) ≡ cond b (units s x) (units s y)
pull_cond s true x y = refl
pull_cond s false x y = refl

-- the greatest of some numbers, in units
greatest_units : (s : ℕ) (le : Number → Number → Bool) (le_u : ℤ → ℤ → Bool)
    → ((x y : Number) → exp_of x ≤ s → exp_of y ≤ s → le x y ≡ le_u (units s x) (units s y))
    → (f : Game → Number) (gs : List Game) → ((a : Game) → Among a gs → exp_of (f a) ≤ s)
    → units s (greatest_by le (whole (pos 0)) (map f gs)) ≡ greatest_by le_u (pos 0) (map (λ a. units s (f a)) gs)
greatest_units s le le_u same f [] h = doubled-zero (s - 0)
greatest_units s le le_u same f (g ∷ []) h = refl
greatest_units s le le_u same f (g ∷ (i ∷ is)) h =
    let q : Number = greatest_by le (whole (pos 0)) (map f (i ∷ is)) in
    let short = short_greatest le s f (i ∷ is) (λ a m. h a (inr m)) in
    pull_cond s (le (f g) q) q (f g)
    ∙ ap (λ b. cond b (units s q) (units s (f g))) (same (f g) q (h g (inl refl)) short)
    ∙ ap (λ z. greater_by le_u (units s (f g)) z) (greatest_units s le le_u same f (i ∷ is) (λ a m. h a (inr m)))

-- ---- walls and stops

record AtZero (s : ℕ) (v : Walls) (t : Stops) : Type 0 where
  left : v.left ≡ units s t.left
  right : v.right ≡ units s t.right

minus_zero : (u v : ℤ) → u ≡ v → u -ℤ pos 0 ≡ v
minus_zero u v e = omega (arith, ints)

plus_zero : (u v : ℤ) → u ≡ v → u +ℤ pos 0 ≡ v
plus_zero u v e = omega (arith, ints)

zero_by : (g : Game) (c : Decided g) (s : ℕ) (w : ℕ → Game → Walls) (st : Game → Stops) → height g ≤ s
    → (NoNumber g → (a : Game) → Among a (lefts g) → (w 0 a).right ≡ units s (st a).right)
    → ((a : Game) → Among a (lefts g) → exp_of (st a).right ≤ height a)
    → (NoNumber g → (b : Game) → Among b (rights g) → (w 0 b).left ≡ units s (st b).left)
    → ((b : Game) → Among b (rights g) → exp_of (st b).left ≤ height b)
    → AtZero s (walls_by g c s (scaffold w g) 0) (stops_by g c (record {
      left = greatest_number (map (λ a. (st a).right) (lefts g));
      right = least_number (map (λ b. (st b).left) (rights g));
    }))
zero_by g (inl x) s w st h l el r er = record { left = refl; right = refl }
zero_by g (inr n) s w st h l el r er =
    let t = greatest_units s number_le le_z (le_z_units s) (λ a. (st a).right) (lefts g)
    (λ a m. let u = el a m in let v = height-left g a n m in omega arith) in
    let b = greatest_units s (λ x y. number_le y x) (λ x y. le_z y x) (λ x y p q. le_z_units s y x q p) (λ a. (st a).left) (rights g)
    (λ a m. let u = er a m in let v = height-right g a n m in omega arith) in
    record {
      left = minus_zero (greatest (map (λ a. (w 0 a).right) (lefts g))) _
          (ap greatest (map-agree (λ a. (w 0 a).right) (λ a. units s (st a).right) (lefts g) (l n)) ∙ sym t);
      right = plus_zero (least (map (λ b. (w 0 b).left) (rights g))) _
          (ap least (map-agree (λ b. (w 0 b).left) (λ b. units s (st b).left) (rights g) (r n)) ∙ sym b);
    }

zero_within : (d : Decides) (n s : ℕ) (g : Game) → size g < n → height g ≤ s
    → AtZero s (walls_within d n s 0 g) (stops_within d n g)
unfolding walls_within stops_within
zero_within d zero s g p h = absurd (omega arith)
zero_within d (suc n) s g p h = zero_by g (d g) s (walls_within d n s) (λ a. stops_within d n a) h
    (λ never a m. let u = size-lefts g a m in let v = height-left g a never m in
    (zero_within d n s a (omega arith) (omega arith)).right)
    (λ a m. let u = size-lefts g a m in (stops_within-low d n a (omega arith)).right)
    (λ never b m. let u = size-rights g b m in let v = height-right g b never m in
    (zero_within d n s b (omega arith) (omega arith)).left)
    (λ b m. let u = size-rights g b m in (stops_within-low d n b (omega arith)).left)

pub walls-start : (d : Decides) (s : ℕ) (g : Game) → height g ≤ s
    → ((walls d s 0 g).left ≡ units s (stops d g).left) × ((walls d s 0 g).right ≡ units s (stops d g).right)
unfolding walls stops
walls-start d s g h = let z = zero_within d (suc (size g)) s g (omega arith) h in (z.left, z.right)

-- the left scaffold of a game that equals no number is at least the right one
pub start_of : (d : Decides) (n s : ℕ) (g : Game) → NoNumber g → size g < suc n → height g ≤ s
    → (scaffold (walls_within d n s) g 0).right ≤ℤ (scaffold (walls_within d n s) g 0).left
start_of d n s g never p h =
    let z = zero_by g (inr never) s (walls_within d n s) (λ a. stops_within d n a) h
    (λ never a m. let u = size-lefts g a m in let v = height-left g a never m in
    (zero_within d n s a (omega arith) (omega arith)).right)
    (λ a m. let u = size-lefts g a m in (stops_within-low d n a (omega arith)).right)
    (λ never b m. let u = size-rights g b m in let v = height-right g b never m in
    (zero_within d n s b (omega arith) (omega arith)).left)
    (λ b m. let u = size-rights g b m in (stops_within-low d n b (omega arith)).left) in
    let k = stops_from g (inr never) (λ a. (stops_within d n a).right) (λ b. (stops_within d n b).left)
    (λ a m. let t = size-lefts g a m in (stops_within-are d n a (omega arith)).right)
    (λ b m. let t = size-rights g b m in (stops_within-are d n b (omega arith)).left) in
    let l = low_from g (inr never) (λ a. (stops_within d n a).right) (λ b. (stops_within d n b).left)
    (λ a m. let t = size-lefts g a m in
    ((stops_within-are d n a (omega arith)).right, (stops_within-low d n a (omega arith)).right))
    (λ b m. let t = size-rights g b m in
    ((stops_within-are d n b (omega arith)).left, (stops_within-low d n b (omega arith)).left)) in
    let st : Stops = record {
      left = greatest_number (map (λ a. (stops_within d n a).right) (lefts g));
      right = least_number (map (λ b. (stops_within d n b).left) (rights g));
    } in
    let o = stops-ordered g st.left st.right k.left k.right in
    let a = l.left in let b = l.right in
    let u = le-units s st.right st.left (omega arith) (omega arith) o in
    let e = z.left in let f = z.right in
    omega (arith, ints)

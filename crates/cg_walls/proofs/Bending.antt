-- The points at which a wall bends are its corners.
use Rattle.std.proofs.Common.{◌≡◌, refl, ℕ, ◌+◌, ◌-◌, ◌<◌, ◌≤◌, arith, zero, suc, ap, sym, ◌∙◌, Bool}
use Rattle.std.proofs.Common.{true, false, not, cond, List, [], ◌∷◌, ◌++◌, drop, ℤ, pos, ◌-ℤ◌}
use Rattle.std.proofs.lemmas.Int.{ints}
use Rattle.std.proofs.lemmas.Bool.Decides.{Decides-int_eq}
use Rattle.std.specs.Ordering.{int_eq}
use Rattle.cg_walls.specs.declared.TheConstants.{END}
use Rattle.cg_walls.specs.declared.bends.Point.{Point}
use Rattle.cg_walls.specs.declared.place.Place.{Place}
use Rattle.cg_walls.specs.declared.rise.Rise.{Rise}
use Rattle.cg_walls.specs.Corners.{corners, point, straight, turns}
use Rattle.cg_walls.specs.Places.{At, first_of, next_of}
use Rattle.cg_walls.specs.Rises.{Climbs, IsWall, rises_at, rises_of, step, value_at}
use Rattle.cg_walls.specs.Fits.{AllFit, PointFits}
use Rattle.cg_walls.proofs.Rising.{lt_false, near, value-suc}
use Rattle.cg_walls.proofs.Walking.{at-steady, before, first-after, next-after}

-- ---- straight and bent

slope : (r : Rise) (t : ℕ) → value_at r (suc t) -ℤ value_at r t ≡ step (rises_of r t)
slope r t = let v = value-suc r t in omega (arith, ints)

goes_on : (r : Rise) (t : ℕ) → rises_of r t ≡ rises_of r (suc t) → straight (value_at r) t ≡ true
goes_on r t e = (Decides-int_eq (value_at r (suc (suc t)) -ℤ value_at r (suc t)) (value_at r (suc t) -ℤ value_at r t)).1
    (slope r (suc t) ∙ ap step (sym e) ∙ sym (slope r t))

bent_by : (x y : ℤ) → (x ≡ y → ⊥) → int_eq x y ≡ false
bent_by x y n = cases (int_eq x y) refl
  where
    cases : (b : Bool) → int_eq x y ≡ b → b ≡ false
    cases true e = absurd (n ((Decides-int_eq x y).0 e))
    cases false e = refl

bends : (r : Rise) (t : ℕ) (b : Bool) → rises_of r t ≡ b → rises_of r (suc t) ≡ not b → straight (value_at r) t ≡ false
bends r t b e f = bent_by (value_at r (suc (suc t)) -ℤ value_at r (suc t)) (value_at r (suc t) -ℤ value_at r t)
    (λ h. differ b (sym (ap step e) ∙ sym (slope r t) ∙ sym h ∙ slope r (suc t) ∙ ap step f))
  where
    differ : (b : Bool) → step b ≡ step (not b) → ⊥
    differ true e = absurd (let i : pos 1 ≡ pos 0 = e in omega (arith, ints))
    differ false e = absurd (let i : pos 0 ≡ pos 1 = e in omega (arith, ints))

-- ---- the walk

walk_on : (r : Rise) (b : Bool) (t k m : ℕ) → ((u : ℕ) → t ≤ u → u < suc (t + k) → rises_of r u ≡ b)
    → turns (value_at r) t (k + m) ≡ turns (value_at r) (t + k) m
walk_on r b t zero m h =
    let e : 0 + m ≡ m = omega arith in
    let f : t ≡ t + 0 = omega arith in
    ap (turns (value_at r) t) e ∙ ap (λ z. turns (value_at r) z m) f
walk_on r b t (suc k) m h =
    let e : suc k + m ≡ suc (k + m) = omega arith in
    let f : suc t + k ≡ t + suc k = omega arith in
    let s = goes_on r t (h t (omega arith) (omega arith) ∙ sym (h (suc t) (omega arith) (omega arith))) in
    ap (turns (value_at r) t) e
    ∙ ap (λ z. cond z (turns (value_at r) (suc t) (k + m)) (point (value_at r) (suc t) ∷ turns (value_at r) (suc t) (k + m))) s
    ∙ walk_on r b (suc t) k m (λ u i j. h u (omega arith) (omega arith)) ∙ ap (λ z. turns (value_at r) z m) f

-- the corners after now, up to the end
abbrev pub corners_after : (ℕ → ℤ) → ℕ → ℕ → List Point
corners_after w now zero = []
corners_after w now (suc n) = turns w now n

turned-at : (r : Rise) (now to : ℕ) (p : Place) → At r now p → now < END → to ≡ next_of r p → to < END → rises_of r to ≡ not p.up
turned-at r now to p a i e h =
    let n = next-after r now p i a in
    a.goes to (omega arith) ∙ go (drop p.passed r.turns.items) a.ahead e
  where
    go : (ts : List ℕ) → Climbs now ts END → to ≡ first_of ts → rises_at p.up ts to ≡ not p.up
    go [] c e = absurd (let f : to ≡ END = e in omega arith)
    go (t ∷ ts) (x, y, z) e =
        let f : to ≡ t = e in
        let n = first-after t ts y z in
        ap (λ b. cond b p.up (rises_at (not p.up) ts to)) (lt_false to t (omega arith)) ∙ before (not p.up) ts to (omega arith)

-- up to a turn before the end
pub corners-turn : (r : Rise) (now to end : ℕ) (p : Place) → At r now p → now < END → to ≡ next_of r p → to < end → end < END
    → corners_after (value_at r) now (end - now) ≡ point (value_at r) to ∷ corners_after (value_at r) to (end - to)
corners-turn r now to end p a i e h k =
    let n = next-after r now p i a in
    let d : ℕ = to - now - 1 in
    let m : ℕ = end - to - 1 in
    let s : end - now ≡ suc (to - now - 1 + suc (end - to - 1)) = omega arith in
    let t : end - to ≡ suc (end - to - 1) = omega arith in
    let u : now + (to - now - 1) ≡ to - 1 = omega arith in
    let v : suc (to - 1) ≡ to = omega arith in
    ap (corners_after (value_at r) now) s
    ∙ walk_on r p.up now (to - now - 1) (suc (end - to - 1)) (λ w x y. at-steady r now p a w x (omega arith))
    ∙ ap (λ z. turns (value_at r) z (suc (end - to - 1))) u
    ∙ ap (λ b. cond b (turns (value_at r) (suc (to - 1)) (end - to - 1)) (point (value_at r) (suc (to - 1)) ∷ turns (value_at r) (suc (to - 1)) (end - to - 1)))
    (bends r (to - 1) p.up (at-steady r now p a (to - 1) (omega arith) (omega arith)) (ap (rises_of r) v ∙ turned-at r now to p a i e (omega arith)))
    ∙ ap (λ z. point (value_at r) z ∷ turns (value_at r) z (end - to - 1)) v
    ∙ ap (λ z. point (value_at r) to ∷ corners_after (value_at r) to z) (sym t)

-- up to the end
pub corners-end : (r : Rise) (now end : ℕ) (p : Place) → At r now p → now < end → end ≤ next_of r p
    → corners_after (value_at r) now (end - now) ≡ point (value_at r) end ∷ []
corners-end r now end p a h k =
    let s : end - now ≡ suc (end - now - 1 + 0) = omega arith in
    let u : now + (end - now - 1) ≡ end - 1 = omega arith in
    let v : suc (end - 1) ≡ end = omega arith in
    ap (corners_after (value_at r) now) s
    ∙ walk_on r p.up now (end - now - 1) 0 (λ w x y. at-steady r now p a w x (omega arith))
    ∙ ap (λ z. turns (value_at r) z 0) u ∙ ap (λ z. point (value_at r) z ∷ []) v

pub corners-all : (w : ℕ → ℤ) (end : ℕ) → corners w end ≡ point w 0 ∷ corners_after w 0 (end - 0)
corners-all w zero = refl
corners-all w (suc n) = let e : suc n ≡ suc n - 0 = omega arith in ap (λ z. point w 0 ∷ corners_after w 0 z) e

pub corners-none : (w : ℕ → ℤ) (now end : ℕ) → end ≤ now → corners_after w now (end - now) ≡ []
corners-none w now end h = let e : end - now ≡ 0 = omega arith in ap (corners_after w now) e

-- a point of the wall
pub point-is : (w : ℕ → ℤ) (t : ℕ) (q : Point) → q.value ≡ w t → q.at ≡ t → q ≡ point w t
point-is w t q e f = ap (λ z. let x : Point = record { value = z; at = q.at } in x) e
    ∙ ap (λ z. let x : Point = record { value = w t; at = z } in x) f

pub first_point : (w : ℕ → ℤ) (end : ℕ) (q : Point) (items : List Point) → items ≡ q ∷ [] → q ≡ point w 0
    → items ++ corners_after w 0 (end - 0) ≡ corners w end
first_point w end q items e f = ap (λ z. z ++ corners_after w 0 (end - 0)) e ∙ ap (λ z. z ∷ corners_after w 0 (end - 0)) f ∙ sym (corners-all w end)

append-one : (xs ys : List Point) (x : Point) → (xs ++ x ∷ []) ++ ys ≡ xs ++ (x ∷ ys)
append-one [] ys x = refl
append-one (z ∷ xs) ys x = ap (λ l. z ∷ l) (append-one xs ys x)

pub next_point : (items more here rest all : List Point) (q r : Point) → more ≡ items ++ q ∷ [] → q ≡ r → here ≡ r ∷ rest
    → items ++ here ≡ all → more ++ rest ≡ all
next_point items more here rest all q r e f g h =
    ap (λ z. z ++ rest) e ∙ append-one items rest q ∙ ap (λ z. items ++ (z ∷ rest)) f ∙ ap (λ z. items ++ z) (sym g) ∙ h

pub no_point : (items here all : List Point) → here ≡ [] → items ++ here ≡ all → items ≡ all
no_point items here all e h = sym (append-none items) ∙ ap (λ z. items ++ z) (sym e) ∙ h
  where
    append-none : (xs : List Point) → xs ++ [] ≡ xs
    append-none [] = refl
    append-none (x ∷ xs) = ap (λ l. x ∷ l) (append-none xs)

-- ---- bounds

point-fits : (r : Rise) (t : ℕ) → IsWall r → t < END → PointFits (point (value_at r) t)
point-fits r t w h = let n = (near r t).above in let l = w.low in record { low = omega (arith, ints); high = w.high t; soon = h }

turns-fit : (r : Rise) (n t : ℕ) → IsWall r → suc t + n < END → AllFit (turns (value_at r) t n)
turns-fit r zero t w h = (point-fits r (suc t) w (omega arith), tt)
turns-fit r (suc n) t w h = both (straight (value_at r) t) (turns-fit r n (suc t) w (omega arith))
  where
    both : (b : Bool) → AllFit (turns (value_at r) (suc t) n)
        → AllFit (cond b (turns (value_at r) (suc t) n) (point (value_at r) (suc t) ∷ turns (value_at r) (suc t) n))
    both true a = a
    both false a = (point-fits r (suc t) w (omega arith), a)

pub corners-fit : (r : Rise) (end : ℕ) → IsWall r → end < END → AllFit (corners (value_at r) end)
corners-fit r zero w h = (point-fits r 0 w h, tt)
corners-fit r (suc n) w h = (point-fits r 0 w (omega arith), turns-fit r n 0 w (omega arith))
